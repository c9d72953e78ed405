use Rattle.std.proofs.Common.{◌≡◌, ◌-◌, ◌≤◌, ◌++◌, replicate, vec_len, vec_capacity}
use Rattle.dm_logdisk.proofs.memory.fill.Given as goal

abbrev pub invariant-loop-bytes : goal.invariant-loop-bytes
invariant-loop-bytes l = record {
  filled : l.bytes.items ≡ l.initial.bytes.items ++ replicate (vec_len l.bytes - vec_len l.initial.bytes) 0;
  longer : vec_len l.initial.bytes ≤ vec_len l.bytes;
  within : vec_len l.bytes - vec_len l.initial.bytes ≤ l.end - vec_len l.initial.bytes;
  capacity : vec_capacity l.initial.bytes ≤ vec_capacity l.bytes;
}

abbrev pub decreases-loop-bytes : goal.decreases-loop-bytes
decreases-loop-bytes l = l.end - vec_len l.bytes
