use Rattle.std.proofs.Common.{◌≡◌, drop}
use Rattle.dm_model.specs.Shape.{is_ascending}
use Rattle.dm_clauses.proofs.shape.ascend.Given as goal

abbrev pub invariant-loop-i : goal.invariant-loop-i
invariant-loop-i l = is_ascending (drop l.i l.keys) ≡ is_ascending l.keys
