use Rattle.std.proofs.Common.{◌≡◌, ◌≤◌, take}
use Rattle.std.specs.Prelude.{reverse}
use Rattle.dm_model.specs.Attempts.{replies}
use Rattle.dm_plain.proofs.attempts.replies.Given as goal

abbrev pub invariant-loop-step : goal.invariant-loop-step
invariant-loop-step l = (l.count ≡ replies l.session (reverse (take l.step-index l.steps))) × (l.count ≤ l.step-index)
