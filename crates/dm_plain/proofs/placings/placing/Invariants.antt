use Rattle.std.proofs.Common.{◌≡◌, take}
use Rattle.std.specs.Prelude.{reverse}
use Rattle.dm_model.specs.Placings.{placing}
use Rattle.dm_plain.proofs.placings.placing.Given as goal

abbrev pub invariant-loop-i : goal.invariant-loop-i
invariant-loop-i l = l.now ≡ placing l.schema (reverse (take l.i l.steps)) l.part
