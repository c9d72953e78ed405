use Rattle.std.proofs.Common.{◌≡◌, List, length}
use Rattle.dm_check.specs.Judged.{HasJudged}
use Rattle.dm_event.specs.declared.step.Step.{Step}
use Rattle.dm_past.specs.Histories.{history_of, read_on}
use Rattle.dm_top.proofs.checking.judge_all.Given as goal

abbrev pub invariant-loop-step : goal.invariant-loop-step
invariant-loop-step l = record {
  judged : (so_far : List Step) × (read_on l.schema so_far l.reader ≡ history_of l.schema l.bytes) × HasJudged so_far l.judge;
  schema : l.judge.book.layout ≡ l.initial.judge.book.layout;
}

abbrev pub decreases-loop-step : goal.decreases-loop-step
decreases-loop-step l = length l.reader.text
