use Rattle.dm_event.specs.declared.actor.Actor.TheVariants.{Session}
use Rattle.dm_invariant.specs.Stations.{Rested, Went}
use Rattle.dm_client.proofs.bringing.bring_all.Given as goal

abbrev pub invariant-loop-part : goal.invariant-loop-part
invariant-loop-part g l = Went l.fn.own l.own × Rested (Session l.fn.on.session) l.fn.own l.own
