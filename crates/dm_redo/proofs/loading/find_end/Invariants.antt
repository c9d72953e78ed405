use Rattle.std.proofs.Common.{length, ◌-◌}
use Rattle.dm_redo.specs.Finding.{Finds}
use Rattle.dm_redo.proofs.loading.find_end.Given as goal

abbrev pub invariant-loop-alloc : goal.invariant-loop-alloc
invariant-loop-alloc l = Finds l.fn.bytes l.gate l.records.items

abbrev pub decreases-loop-alloc : goal.decreases-loop-alloc
decreases-loop-alloc l = length l.bytes - l.gate
