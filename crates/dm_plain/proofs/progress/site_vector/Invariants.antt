use Rattle.std.proofs.Common.{◌≡◌, ◌<◌, ◌≤◌, ℕ, length}
use Rattle.std.specs.Prelude.{reverse}
use Rattle.dm_event.specs.Vectors.{at}
use Rattle.dm_model.specs.Progress.{reached}
use Rattle.dm_plain.proofs.progress.site_vector.Given as goal

abbrev pub invariant-loop-origin : goal.invariant-loop-origin
invariant-loop-origin l = (length l.vector ≡ l.schema.sites) × ((k : ℕ) → 1 ≤ k → k < l.origin → at l.vector k ≡ reached l.site k (reverse l.steps))
