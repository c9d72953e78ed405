use Rattle.std.proofs.Common.{◌≡◌, ◌≤◌, length, take}
use Rattle.std.specs.Prelude.{reverse}
use Rattle.dm_model.specs.Doubts.{pending_at}
use Rattle.dm_core.proofs.doubts.pending_at.Given as goal

abbrev pub invariant-loop-place : goal.invariant-loop-place
invariant-loop-place l = record {
  within : l.place ≤ length l.steps;
  found : pending_at l.site (reverse (take l.place l.steps)) ≡ pending_at l.site (reverse l.steps);
}

abbrev pub decreases-loop-place : goal.decreases-loop-place
decreases-loop-place l = l.place
