use Rattle.std.proofs.Common.{◌≡◌, map, [], ℕ, Vec, Global}
use Rattle.std.specs.Prelude.{replicate}
use Rattle.dm_index.proofs.entries.opening.Given as goal

abbrev pub invariant-loop-i : goal.invariant-loop-i
invariant-loop-i l = map (λ (v : Vec ℕ Global). v.items) l.places.items ≡ replicate l._i []
