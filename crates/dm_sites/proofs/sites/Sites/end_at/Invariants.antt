use Rattle.std.proofs.Common.{◌≡◌, take}
use Rattle.dm_event.specs.declared.actor.Actor.TheVariants.{Session}
use Rattle.dm_invariant.specs.Stations.{Rested, Went}
use Rattle.dm_sites.proofs.sites.Sites.end_at.Given as goal

abbrev pub invariant-loop-i : goal.invariant-loop-i
invariant-loop-i g l = Went l.fn.own l.own × Rested (Session l.fn.run.txn.session) l.fn.own l.own × (l.run ≡ record l.fn.run { ops = take l.i l.fn.ops })
