use Rattle.std.proofs.Common.{length, ◌-◌, ◌+◌, ◌≡◌, ◌≤◌, drop}
use Rattle.dm_model.specs.Allowed.{common_key}
use Rattle.dm_locks.proofs.claim.common_key.Given as goal

abbrev pub invariant-loop-i : goal.invariant-loop-i
invariant-loop-i l = record {
  rest : common_key (drop l.i l.keys) (drop l.j l.others) ≡ common_key l.keys l.others;
  keys : l.i ≤ length l.keys;
  others : l.j ≤ length l.others;
}

abbrev pub decreases-loop-i : goal.decreases-loop-i
decreases-loop-i l = (length l.keys - l.i) + (length l.others - l.j)
