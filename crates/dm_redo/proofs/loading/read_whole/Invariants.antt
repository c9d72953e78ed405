use Rattle.std.proofs.Common.{◌≡◌, ◌≤◌, ◌-◌, length}
use Rattle.dm_redo.proofs.Reading.{Front}
use Rattle.dm_redo.proofs.loading.read_whole.Given as goal

abbrev pub invariant-loop-done : goal.invariant-loop-done
invariant-loop-done g l = record {
  within : l.done ≤ length l.into;
  long : length l.into ≡ length l.initial.into;
  front : Front (g.D.LogDisk.story l.initial.disk) l.into l.done;
  same : g.D.LogDisk.story l.disk ≡ g.D.LogDisk.story l.initial.disk;
  count : g.D.LogDisk.faults l.initial.disk ≤ g.D.LogDisk.faults l.disk;
}

abbrev pub decreases-loop-done : goal.decreases-loop-done
decreases-loop-done g l = length l.into - l.done
