use Rattle.std.proofs.Common.{◌≡◌, ◌++◌}
use Rattle.dm_opening.specs.Dealing.{sites_from}
use Rattle.dm_opening.proofs.actors.add_sites.Given as goal

abbrev pub invariant-loop-before : goal.invariant-loop-before
invariant-loop-before l = l.actors.items ≡ l.fn.actors.items ++ sites_from 1 l.before
