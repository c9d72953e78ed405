-- What comes of making a site's log live.
use Rattle.std.specs.Prelude.{◌≡◌, Option, Some, None, IsTrue}
use Rattle.dm_event.specs.declared.actor.Actor.TheVariants.{Session, Site}
use Rattle.dm_event.specs.declared.step.Cause.{Cause}
use Rattle.dm_event.specs.declared.step.Step.TheVariants.{Fail}
use Rattle.dm_event.specs.declared.step.TxnId.{TxnId}
use Rattle.dm_invariant.specs.Stations.{Station, View}
use Rattle.dm_invariant.specs.Turning.{Came, Met}
use Rattle.dm_invariant.specs.Writing.{let_go}

-- the log is live, with no step; or the attempt has failed
abbrev pub MadeLive : {D : Type 0} → TxnId → Station D → Station D → View → View → Option Cause → Type 0
MadeLive txn old new own0 own1 None = IsTrue new.live × (new.locks ≡ old.locks) × Met (Site old.number) (Session txn.session) own0 old.pass own1 new.pass
MadeLive txn old new own0 own1 (Some why) =
    (new.locks ≡ let_go txn old.locks) × Came (Site old.number) (Session txn.session) own0 old.pass own1 new.pass (Fail old.number txn why)
