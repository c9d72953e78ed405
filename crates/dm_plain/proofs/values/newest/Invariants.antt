use Rattle.std.proofs.Common.{◌≡◌, take}
use Rattle.std.specs.Prelude.{reverse}
use Rattle.dm_model.specs.Values.{newest}
use Rattle.dm_model.specs.Acts.{entries}
use Rattle.dm_plain.proofs.values.newest.Given as goal

abbrev pub invariant-loop-i : goal.invariant-loop-i
invariant-loop-i l = l.last ≡ newest (entries (reverse (take l.i l.steps))) l.key l.at
