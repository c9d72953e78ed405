use Rattle.std.proofs.Common.{◌≡◌, take}
use Rattle.std.specs.Prelude.{reverse, option_map}
use Rattle.dm_model.specs.Acts.{entries}
use Rattle.dm_model.specs.Closed.{unclosed}
use Rattle.dm_steps.proofs.Entries.{named}
use Rattle.dm_plain.proofs.floors.unclosed.Given as goal

abbrev pub invariant-loop-i : goal.invariant-loop-i
invariant-loop-i l = l.found ≡ option_map named (unclosed l.vector (reverse (entries (reverse (take l.i l.steps)))))
