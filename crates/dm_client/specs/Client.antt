-- What a client is told of an item, and the one Reply more of its session.
use Rattle.std.specs.Prelude.{◌≡◌, ◌+◌, List, [], ◌∷◌, ◌++◌, Option, None}
use Rattle.dm_answers.specs.Answers.{EachTries, Fits}
use Rattle.dm_answers.specs.declared.item.Item.{Item}
use Rattle.dm_event.specs.declared.actor.Actor.TheVariants.{Session}
use Rattle.dm_event.specs.declared.step.Cause.TheVariants.{Memory}
use Rattle.dm_event.specs.declared.step.Said.TheVariants.{Refused}
use Rattle.dm_event.specs.declared.step.Step.{Step}
use Rattle.dm_event.specs.declared.step.Step.TheVariants.{Reply, Route}
use Rattle.dm_event.specs.declared.step.TxnId.{TxnId}
use Rattle.dm_event.specs.declared.step.Want.{Want}
use Rattle.dm_invariant.specs.Stations.{Went, own}
use Rattle.dm_session.specs.Sitting.{Sitting}
use Rattle.dm_sites.specs.Telling.{Tells, last_txn}
use Rattle.dm_sites.specs.declared.told.Came.{Came}
use Rattle.dm_sites.specs.declared.told.Came.TheVariants.{Say}
use Rattle.dm_sites.specs.declared.told.Told.{Told}

-- The same session was answered one item more. Its further steps are those for the item and then its Reply, which fits the item and what
-- was done for it, and is what the client is told, with the last attempt, the reads and the vector.
pub record Answered (item : Item) (told : Told) (old new : Sitting) : Type 0 where
  pub same : new.id ≡ old.id
  pub count : new.count ≡ old.count + 1
  pub went : Went old.pass new.pass
  pub way : List Step
  pub steps : own (Session old.id) new.pass.seen ≡ own (Session old.id) old.pass.seen ++ (way ++ Reply old.id (old.count + 1) told.said ∷ [])
  pub tries : EachTries old.id (old.count + 1) item way
  pub fits : Fits item told.said way
  pub tells : Tells old.vector told.said told.reads told.vector way
  pub last_is : last_txn None way ≡ told.txn

-- the same session, answered no further
abbrev pub IsSameOne : Sitting → Sitting → Type 0
IsSameOne old new = (new.id ≡ old.id) × (new.count ≡ old.count) × (new.vector ≡ old.vector)

-- the session's last step is a Route of the attempt for this, with what it had seen, to where it keeps
abbrev pub IsSent : TxnId → Want → Sitting → Type 0
IsSent txn wanted s = (before : List Step) × (own (Session txn.session) s.pass.seen ≡ before ++ Route txn wanted s.vector s.to s.by ∷ [])
    × (txn.session ≡ s.id)

-- there was too little memory to route the item again
abbrev pub untold : Option TxnId → Came
untold last = Say (record { said = Refused Memory; txn = last; reads = []; vector = None })
