use Rattle.std.proofs.Common.{◌≡◌, ◌≤◌, ℕ, List, length, take}
use Rattle.dm_logdisk.specs.Story.{opened}
use Rattle.dm_logdisk.specs.Kept.{story_from}
use Rattle.dm_logdisk.specs.Picks.{kept_of}
use Rattle.dm_logdisk.proofs.crashing.synced_until.Given as goal

abbrev pub invariant-loop-until : goal.invariant-loop-until
invariant-loop-until l = record {
  few : l.until ≤ length l.changes;
  kept : (first pieces : List ℕ) → kept_of (story_from (opened first) l.changes pieces) ≡ kept_of (story_from (opened first) (take l.until l.changes) pieces);
}

abbrev pub decreases-loop-until : goal.decreases-loop-until
decreases-loop-until l = l.until
