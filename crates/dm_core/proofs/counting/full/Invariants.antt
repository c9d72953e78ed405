use Rattle.std.proofs.Common.{◌≡◌, ◌<◌, ◌≤◌, ℕ, length}
use Rattle.dm_event.specs.Vectors.{at}
use Rattle.dm_kept.specs.Ledger.{past}
use Rattle.dm_model.specs.Progress.{entry_count}
use Rattle.dm_core.proofs.counting.full.Given as goal

abbrev pub invariant-loop-origin : goal.invariant-loop-origin
invariant-loop-origin l = (length l.vector ≡ l.kept.layout.sites) × ((k : ℕ) → 1 ≤ k → k < l.origin → at l.vector k ≡ entry_count k (past l.kept))
