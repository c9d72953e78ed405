use Rattle.std.proofs.Common.{◌≡◌, ◌++◌}
use Rattle.dm_opening.specs.Dealing.{parts_from}
use Rattle.dm_opening.proofs.actors.add_parts.Given as goal

abbrev pub invariant-loop-part : goal.invariant-loop-part
invariant-loop-part l = l.actors.items ≡ l.fn.actors.items ++ parts_from 0 l.part
