use Rattle.std.proofs.Common.{◌≡◌, ◌<◌, ◌≤◌, ℕ, length}
use Rattle.dm_model.specs.Progress.{site_vector}
use Rattle.dm_placement.specs.Scored.{vector_in}
use Rattle.dm_clauses.proofs.choosing.vectors.Given as goal

abbrev pub invariant-loop-site : goal.invariant-loop-site
invariant-loop-site g l = (length l.vectors ≡ 8) × ((k : ℕ) → 1 ≤ k → k < l.site → vector_in l.vectors k ≡ site_vector (g.T.Told.layout l.told).sites (g.T.Told.past l.told) k)
