use Rattle.std.proofs.Common.{◌≡◌, take}
use Rattle.std.specs.Prelude.{reverse}
use Rattle.dm_model.specs.Words.{latest}
use Rattle.dm_plain.specs.Routings.{routing_by}
use Rattle.dm_plain.proofs.attempts.last_routing.Given as goal

abbrev pub invariant-loop-step : goal.invariant-loop-step
invariant-loop-step l = l.last ≡ latest (routing_by l.session) (reverse (take l.step-index l.steps))
