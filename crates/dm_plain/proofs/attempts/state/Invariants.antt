use Rattle.std.proofs.Common.{◌≡◌, take}
use Rattle.std.specs.Prelude.{reverse}
use Rattle.dm_model.specs.Attempts.{state}
use Rattle.dm_plain.proofs.attempts.state.Given as goal

abbrev pub invariant-loop-step : goal.invariant-loop-step
invariant-loop-step l = l.now ≡ state l.session (reverse (take l.step-index l.steps))
