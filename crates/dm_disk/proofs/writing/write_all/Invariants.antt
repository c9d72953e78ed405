use Rattle.std.proofs.Common.{length, ◌-◌, ◌≡◌, ◌≤◌, take}
use Rattle.dm_disk.specs.Putting.{appended}
use Rattle.dm_disk.proofs.writing.write_all.Given as goal

abbrev pub invariant-loop-done : goal.invariant-loop-done
invariant-loop-done g l = record {
  within : l.done ≤ length l.text;
  taken : g.W.Sink.written l.sink ≡ appended (g.W.Sink.written l.initial.sink) (take l.done l.text);
  count : g.W.Sink.faults l.initial.sink ≤ g.W.Sink.faults l.sink;
}

abbrev pub decreases-loop-done : goal.decreases-loop-done
decreases-loop-done g l = length l.text - l.done
