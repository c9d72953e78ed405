use Rattle.std.proofs.Common.{◌≡◌, take}
use Rattle.std.specs.Prelude.{find, reverse}
use Rattle.dm_event.specs.Layout.{holds_key}
use Rattle.dm_event.proofs.schema.Schema.last_range.Given as goal

abbrev pub invariant-loop-range : goal.invariant-loop-range
invariant-loop-range l = l.last ≡ find (holds_key l.key) (reverse (take l.range-index l.range-items))
