use Rattle.dm_event.specs.declared.actor.Actor.TheVariants.{Session}
use Rattle.dm_site.specs.Catching.{Refreshes}
use Rattle.dm_invariant.specs.Stations.{Rested, Went}
use Rattle.dm_site.proofs.site.Site.grant.Given as goal

abbrev pub invariant-loop : goal.invariant-loop
invariant-loop g l = Refreshes l.fn.self l.self × Went l.fn.own l.own × Rested (Session l.on.session) l.fn.own l.own
