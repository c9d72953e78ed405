use Rattle.std.proofs.Common.{◌≡◌, ◌<◌, ◌≤◌, ℕ, false, not}
use Rattle.std.specs.Prelude.{nat_lt, ◌==◌, ◌&&◌}
use Rattle.dm_event.specs.Vectors.{at}
use Rattle.dm_clauses.proofs.judging.missing_for.Given as goal

abbrev pub invariant-loop-site : goal.invariant-loop-site
invariant-loop-site g l = (k : ℕ) → 1 ≤ k → k < l.site → (not (k == l.entry.origin) && nat_lt (at l.vector k) (at l.entry.begin k)) ≡ false
