use Rattle.std.proofs.Common.{◌≡◌, take}
use Rattle.std.specs.Prelude.{reverse}
use Rattle.dm_model.specs.Words.{latest}
use Rattle.dm_model.specs.Runs.{runs_after}
use Rattle.dm_plain.proofs.running.runs.Given as goal

abbrev pub invariant-loop-step : goal.invariant-loop-step
invariant-loop-step l = l.last ≡ latest (runs_after l.site l.txn) (reverse (take l.step-index l.steps))
