use Rattle.std.proofs.Common.{◌≡◌, drop}
use Rattle.dm_kinds.specs.Ranges.{rises}
use Rattle.dm_kinds.proofs.range.rises.Given as goal

abbrev pub invariant-loop-key : goal.invariant-loop-key
invariant-loop-key l = rises l.last (drop l.key-index l.keys) ≡ rises l.first l.keys
