use Rattle.std.proofs.Common.{◌≡◌, drop}
use Rattle.std.specs.Prelude.{reverse}
use Rattle.dm_plain.proofs.Finding.{on_part}
use Rattle.dm_plain.proofs.running.runner.Given as goal

abbrev pub invariant-loop-step : goal.invariant-loop-step
invariant-loop-step l = on_part l.schema l.site l.part (reverse l.steps) (drop l.step-index l.steps) ≡ on_part l.schema l.site l.part (reverse l.steps) l.steps
