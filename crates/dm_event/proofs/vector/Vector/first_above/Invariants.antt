use Rattle.std.proofs.Common.{◌<◌, ◌≤◌, ℕ}
use Rattle.dm_event.specs.Vectors.{at}
use Rattle.dm_event.proofs.vector.Vector.first_above.Given as goal

abbrev pub invariant-loop-site : goal.invariant-loop-site
invariant-loop-site l = (k : ℕ) → 1 ≤ k → k < l.site → at l.self k ≤ at l.other k
