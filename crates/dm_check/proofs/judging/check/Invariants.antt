use Rattle.std.proofs.Common.{◌≡◌, ◌++◌, List}
use Rattle.dm_event.specs.declared.step.Step.{Step}
use Rattle.dm_check.specs.Judged.{HasJudged}
use Rattle.dm_check.proofs.judging.check.Given as goal

abbrev pub invariant-loop-step : goal.invariant-loop-step
invariant-loop-step l = record {
  judged : (before : List Step) × (before ++ l.step-iterator.rest.items ≡ l.fn.steps.items) × HasJudged before l.judge;
  schema : l.judge.book.layout ≡ l.schema;
}
