use Rattle.std.proofs.Common.{◌≡◌, ◌<◌, ◌≤◌, ℕ, false}
use Rattle.dm_clauses.specs.Choosing.{all_settled}
use Rattle.dm_clauses.proofs.choosing.settled_site.Given as goal

abbrev pub invariant-loop-site : goal.invariant-loop-site
invariant-loop-site g l = (k : ℕ) → 1 ≤ k → k < l.site → all_settled (g.T.Told.layout l.told) (g.T.Told.past l.told) k l.keys ≡ false
