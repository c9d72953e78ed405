use Rattle.std.proofs.Common.{◌≡◌, take}
use Rattle.std.specs.Prelude.{reverse}
use Rattle.dm_model.specs.Doubts.{down_after}
use Rattle.dm_model.specs.Words.{latest}
use Rattle.dm_plain.proofs.doubts.is_down.Given as goal

abbrev pub invariant-loop-step : goal.invariant-loop-step
invariant-loop-step l = l.last ≡ latest (down_after l.site) (reverse (take l.step-index l.steps))
