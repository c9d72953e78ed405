use Rattle.std.proofs.Common.{◌≡◌, ◌≤◌, take}
use Rattle.std.specs.Prelude.{reverse}
use Rattle.dm_model.specs.Progress.{entry_count}
use Rattle.dm_plain.proofs.acts.entry_count.Given as goal

abbrev pub invariant-loop-i : goal.invariant-loop-i
invariant-loop-i l = (l.count ≡ entry_count l.origin (reverse (take l.i l.steps))) × (l.count ≤ l.i)
