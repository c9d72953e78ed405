use Rattle.std.proofs.Common.{◌≡◌, drop, []}
use Rattle.dm_schema.specs.Parts.{each_from, within}
use Rattle.dm_schema.proofs.parts.masters_in.Given as goal

abbrev pub invariant-loop-number : goal.invariant-loop-number
invariant-loop-number l = each_from l.masters.items (within 1 l.sites) (drop l.number-index l.numbers) ≡ each_from [] (within 1 l.sites) l.numbers
