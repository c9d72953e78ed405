use Rattle.std.proofs.Common.{◌≡◌, ◌++◌, take}
use Rattle.dm_opening.specs.Dealing.{sessions_of}
use Rattle.dm_opening.proofs.actors.add_sessions.Given as goal

abbrev pub invariant-loop-i : goal.invariant-loop-i
invariant-loop-i l = l.actors.items ≡ l.fn.actors.items ++ sessions_of (take l.i l.ids)
