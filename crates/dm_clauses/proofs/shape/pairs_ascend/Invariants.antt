use Rattle.std.proofs.Common.{◌≡◌, drop}
use Rattle.dm_model.specs.Shape.{is_ascending}
use Rattle.std.specs.Prelude.{map}
use Rattle.dm_clauses.proofs.shape.pairs_ascend.Given as goal

abbrev pub invariant-loop-i : goal.invariant-loop-i
invariant-loop-i l = is_ascending (drop l.i (map (λ p. p.key) l.pairs)) ≡ is_ascending (map (λ p. p.key) l.pairs)
