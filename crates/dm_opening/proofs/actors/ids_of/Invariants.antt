use Rattle.std.proofs.Common.{◌≡◌, take}
use Rattle.dm_opening.specs.Dealing.{ids_from}
use Rattle.dm_opening.proofs.actors.ids_of.Given as goal

abbrev pub invariant-loop-i : goal.invariant-loop-i
invariant-loop-i l = l.ids.items ≡ ids_from 1 (take l.i l.items)
