use Rattle.std.proofs.Common.{◌≡◌, ◌+◌, ◌≤◌, length}
use Rattle.dm_past.specs.Histories.{history_of, read_on}
use Rattle.dm_past.proofs.reading.read.Given as goal

abbrev pub invariant-loop-steps : goal.invariant-loop-steps
invariant-loop-steps l = record {
  count : length l.steps.items + length l.reader.text ≤ length l.bytes;
  exact : read_on l.schema l.steps.items l.reader ≡ history_of l.schema l.bytes;
}

abbrev pub decreases-loop-steps : goal.decreases-loop-steps
decreases-loop-steps l = length l.reader.text
