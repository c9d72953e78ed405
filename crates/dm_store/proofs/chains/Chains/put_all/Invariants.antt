use Rattle.std.proofs.Common.{◌≡◌, ◌+◌, ◌-◌, ◌≤◌, ◌++◌, length, map, drop}
use Rattle.dm_store.specs.Versions.{version_by}
use Rattle.dm_store.proofs.chains.Chains.put_all.Given as goal

abbrev pub invariant-loop-left : goal.invariant-loop-left
invariant-loop-left l = record {
  within : l.left ≤ length l.writes;
  known : l.self.known ≡ l.initial.self.known;
  versions : l.self.versions ≡ map (version_by l.origin l.seq) (drop l.left l.writes) ++ l.initial.self.versions;
  room : l.initial.self.room ≤ l.self.room + (length l.writes - l.left);
}

abbrev pub decreases-loop-left : goal.decreases-loop-left
decreases-loop-left l = l.left
