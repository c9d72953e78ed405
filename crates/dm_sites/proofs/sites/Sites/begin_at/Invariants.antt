use Rattle.dm_event.specs.declared.actor.Actor.TheVariants.{Session}
use Rattle.dm_invariant.specs.Stations.{Rested, Went}
use Rattle.dm_sites.proofs.sites.Sites.begin_at.Given as goal

abbrev pub invariant-loop : goal.invariant-loop
invariant-loop g l = Went l.fn.own l.own × Rested (Session l.fn.txn.session) l.fn.own l.own
