use Rattle.dm_site.specs.Catching.{Refreshes}
use Rattle.dm_site.proofs.site.Site.reach.Given as goal

abbrev pub invariant-loop : goal.invariant-loop
invariant-loop g l = Refreshes l.fn.self l.self
