use Rattle.std.proofs.Common.{◌≡◌, drop, []}
use Rattle.dm_schema.specs.Parts.{each_from, range_in}
use Rattle.dm_schema.proofs.spans.ranges_in.Given as goal

abbrev pub invariant-loop-span : goal.invariant-loop-span
invariant-loop-span l = each_from l.ranges.items (range_in l.keys) (drop l.span-index l.spans) ≡ each_from [] (range_in l.keys) l.spans
