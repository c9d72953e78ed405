use Rattle.std.proofs.Common.{◌≡◌, take}
use Rattle.std.specs.Prelude.{reverse}
use Rattle.dm_model.specs.Outcomes.{restarted_since}
use Rattle.dm_plain.proofs.since.restarted_since.Given as goal

abbrev pub invariant-loop-step : goal.invariant-loop-step
invariant-loop-step l = l.found ≡ restarted_since l.session l.site (reverse (take l.step-index l.steps))
