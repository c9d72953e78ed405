use Rattle.std.proofs.Common.{◌≡◌, take}
use Rattle.std.specs.Prelude.{reverse}
use Rattle.dm_model.specs.Floors.{floor}
use Rattle.dm_plain.proofs.floors.floor.Given as goal

abbrev pub invariant-loop-i : goal.invariant-loop-i
invariant-loop-i l = l.floor ≡ floor l.schema.sites (reverse (take l.i l.steps)) l.site
