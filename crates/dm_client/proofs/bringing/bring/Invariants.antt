use Rattle.std.proofs.Common.{◌≡◌}
use Rattle.dm_event.specs.declared.actor.Actor.TheVariants.{Session}
use Rattle.dm_invariant.specs.Stations.{Rested, Went}
use Rattle.dm_client.proofs.bringing.bring.Given as goal

abbrev pub invariant-loop : goal.invariant-loop
invariant-loop g l = Went l.fn.own l.own × Rested (Session l.fn.on.session) l.fn.own l.own × (l.place.part ≡ l.fn.place.part)
