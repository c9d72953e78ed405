use Rattle.std.proofs.Common.{◌≡◌, take}
use Rattle.std.specs.Prelude.{reverse}
use Rattle.dm_model.specs.Words.{latest}
use Rattle.dm_model.specs.Progress.{restart_vector}
use Rattle.dm_plain.proofs.progress.last_restart.Given as goal

abbrev pub invariant-loop-step : goal.invariant-loop-step
invariant-loop-step l = l.last ≡ latest (restart_vector l.site) (reverse (take l.step-index l.steps))
