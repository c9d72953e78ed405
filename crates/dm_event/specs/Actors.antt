-- Whose action a step is.
use Rattle.std.specs.Prelude.{Option, Some, None}
use Rattle.dm_event.specs.declared.actor.Actor.{Actor}
use Rattle.dm_event.specs.declared.actor.Actor.TheVariants.{Session, Partition, Site}
use Rattle.dm_event.specs.declared.step.Pending.TheVariants as pending
use Rattle.dm_event.specs.declared.step.Step.{Step}
use Rattle.dm_event.specs.declared.step.Step.TheVariants.{Route, Reply, Ask, Settle, Begin, Moved, Commit, End, Fail, Refresh, Release, Grant, Doubt, Restart}

-- A session routes and is answered. A partition is asked and settled. What runs or ends an attempt is its site's and its
-- session's, also where its commit is in doubt. All else is the site's.
abbrev pub actors : Step → Actor × Option Actor
actors (Route txn want min site choice) = (Session txn.session, None)
actors (Reply session number said) = (Session session, None)
actors (Ask part epoch to txn) = (Partition part, None)
actors (Settle part epoch) = (Partition part, None)
actors (Begin site txn begin) = (Site site, Some (Session txn.session))
actors (Moved site txn) = (Site site, Some (Session txn.session))
actors (Commit entry) = (Site entry.origin, Some (Session entry.txn.session))
actors (End site txn ops reads) = (Site site, Some (Session txn.session))
actors (Fail site txn cause) = (Site site, Some (Session txn.session))
actors (Refresh site origin) = (Site site, None)
actors (Release site part epoch to vector) = (Site site, None)
actors (Grant site part epoch vector) = (Site site, None)
actors (Doubt site (pending.Commit entry)) = (Site site, Some (Session entry.txn.session))
actors (Doubt site (pending.Release part epoch to vector)) = (Site site, None)
actors (Doubt site (pending.Grant part epoch vector)) = (Site site, None)
actors (Restart site vector found) = (Site site, None)
