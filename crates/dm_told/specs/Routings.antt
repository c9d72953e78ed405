-- What code keeps of a Route.
use Rattle.dm_model.specs.Attempts.{Routing}
use Rattle.dm_told.specs.declared.routing.Routing.{Routing as Kept}

-- the Route without what it wants
abbrev pub without_want : Routing → Kept
without_want r = record { txn = r.txn; min = r.min; site = r.site; choice = r.choice }
