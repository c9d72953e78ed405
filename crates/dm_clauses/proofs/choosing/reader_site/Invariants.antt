use Rattle.std.proofs.Common.{◌≡◌, ◌<◌, ℕ, false}
use Rattle.dm_clauses.specs.Choosing.{has_seen}
use Rattle.dm_clauses.proofs.choosing.reader_site.Given as goal

abbrev pub invariant-loop-place : goal.invariant-loop-place
invariant-loop-place g l = (k : ℕ) → k < l.place → has_seen (g.T.Told.layout l.told) (g.T.Told.past l.told) l.session k ≡ false
