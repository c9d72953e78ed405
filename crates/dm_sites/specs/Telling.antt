-- What was done on the way to a Reply, and what the client is told.
use Rattle.std.specs.List.{list_all}
use Rattle.std.specs.Prelude.{ℕ, ◌≡◌, ◌≤◌, length, List, [], ◌∷◌, ◌++◌, Option, Some, None, reverse, IsTrue}
use Rattle.dm_answers.specs.Answers.{EachTries, Fits}
use Rattle.dm_answers.specs.declared.item.Item.{Item}
use Rattle.dm_answers.specs.declared.item.Item.TheVariants.{Txn}
use Rattle.dm_desk.specs.declared.answers.CommitAnswer.{CommitAnswer}
use Rattle.dm_desk.specs.declared.answers.CommitAnswer.TheVariants as committed
use Rattle.dm_event.specs.Entries.{commit_vector}
use Rattle.dm_event.specs.Layout.{Layout}
use Rattle.dm_event.specs.Vectors.{AtMost}
use Rattle.dm_event.specs.declared.actor.Actor.TheVariants.{Session}
use Rattle.dm_event.specs.declared.step.Body.{Body}
use Rattle.dm_event.specs.declared.step.Cause.{Cause}
use Rattle.dm_event.specs.declared.step.Cause.TheVariants as cause
use Rattle.dm_event.specs.declared.step.Entry.{Entry}
use Rattle.dm_event.specs.declared.step.Op.{Op}
use Rattle.dm_event.specs.declared.step.Pair.{Pair}
use Rattle.dm_event.specs.declared.step.Said.{Said}
use Rattle.dm_event.specs.declared.step.Said.TheVariants as said
use Rattle.dm_event.specs.declared.step.Step.{Step}
use Rattle.dm_event.specs.declared.step.Step.TheVariants.{Route, Begin, Commit, End}
use Rattle.dm_event.specs.declared.step.TxnId.{TxnId}
use Rattle.dm_event.specs.declared.step.Want.TheVariants as want
use Rattle.dm_invariant.specs.Stations.{View, Went, layout_of, own}
use Rattle.dm_model.specs.Attempts.{state}
use Rattle.dm_model.specs.Bodies.{first_undeclared}
use Rattle.dm_model.specs.Outcomes.{may_say}
use Rattle.dm_model.specs.Rows.{may_route}
use Rattle.dm_model.specs.Shape.{is_op, is_said, is_want}
use Rattle.dm_sites.specs.declared.stop.Stop.{Stop}
use Rattle.dm_sites.specs.declared.stop.Stop.TheVariants as stop
use Rattle.dm_sites.specs.declared.told.Came.{Came}
use Rattle.dm_sites.specs.declared.told.Came.TheVariants as came
use Rattle.dm_sites.specs.declared.told.Told.{Told}

-- the attempt of the last Route, where the one before is given
abbrev pub last_txn : Option TxnId → List Step → Option TxnId
last_txn o [] = o
last_txn o (Route txn wanted min site by ∷ steps) = last_txn (Some txn) steps
last_txn o (s ∷ steps) = last_txn o steps

-- the reads and the vector are those of the entry, or of the End and its Begin, and the begin vector is at least the given one
abbrev pub Tells : List ℕ → Said → List Pair → Option (List ℕ) → List Step → Type 0
Tells least (said.Committed site seq) reads vector way =
    (before : List Step) × (txn : TxnId) × (e : Entry) × (way ≡ before ++ Begin site txn e.begin ∷ Commit e ∷ []) × (e.origin ≡ site) × (e.seq ≡ seq)
    × (reads ≡ e.reads) × (vector ≡ Some (commit_vector e)) × AtMost least e.begin
Tells least (said.Read site) reads vector way =
    (before : List Step) × (txn : TxnId) × (begin : List ℕ) × (ops : List Op) × (way ≡ before ++ Begin site txn begin ∷ End site txn ops reads ∷ [])
    × (vector ≡ Some begin) × AtMost least begin
Tells least other reads vector way = (reads ≡ []) × (vector ≡ None)

-- a transaction that writes no undeclared key, or another item
abbrev pub IsRoutable : Item → Type 0
IsRoutable (Txn body) = first_undeclared body.declared body.ops ≡ None
IsRoutable other = Unit {0}

-- on the way to the Reply to the session's item with this number: the steps that came, and the last attempt before and after
pub record OnWay (c n : ℕ) (item : Item) (last : Option TxnId) (old new : View) (later : Option TxnId) : Type 0 where
  pub went : Went old new
  pub way : List Step
  pub steps : own (Session c) new.seen ≡ own (Session c) old.seen ++ way
  pub tries : EachTries c n item way
  pub last_is : last_txn last way ≡ later

-- the Reply may come: its outcome is allowed, and fits the item and what was done for it
pub record IsReady (c n : ℕ) (item : Item) (least : List ℕ) (last : Option TxnId) (old new : View) (told : Told) : Type 0 where
  pub went : Went old new
  pub way : List Step
  pub steps : own (Session c) new.seen ≡ own (Session c) old.seen ++ way
  pub tries : EachTries c n item way
  pub last_is : last_txn last way ≡ told.txn
  pub fits : Fits item told.said way
  pub tells : Tells least told.said told.reads told.vector way
  pub shaped : IsTrue (is_said (layout_of new) told.said)
  pub may : IsTrue (may_say (layout_of new) (reverse new.seen) c told.said)

-- what came of an attempt: the item can be answered, or it is to be routed again
abbrev pub CameAs : ℕ → ℕ → Item → List ℕ → Option TxnId → View → View → Came → Type 0
CameAs c n item least last old new (came.Say told) = IsReady c n item least last old new told
CameAs c n item least last old new (came.Again txn) = OnWay c n item last old new (Some txn) × IsTrue (may_route (state c (reverse new.seen)))

-- a body that fits the schema and the limits, and writes no undeclared key
pub record IsBody (layout : Layout) (body : Body) : Type 0 where
  pub declared : IsTrue (is_want layout (want.Txn body.declared))
  pub all_declared : first_undeclared body.declared body.ops ≡ None
  pub few : length body.ops ≤ 64
  pub keys : IsTrue (list_all (is_op layout) body.ops)

-- ---- what is told

-- an outcome without reads
abbrev pub bare : Said → TxnId → Told
bare o txn = record { said = o; txn = Some txn; reads = []; vector = None }

abbrev pub refused_for : Cause → TxnId → Came
refused_for why txn = came.Say (bare (said.Refused why) txn)

abbrev pub cause_of : Stop → Cause
cause_of (stop.Failed why) = why
cause_of stop.NoMemory = cause.Memory

abbrev pub came_of : TxnId → ℕ → CommitAnswer → Came
came_of txn to (committed.Committed seq vector reads) =
    came.Say (record { said = said.Committed to seq; txn = Some txn; reads = reads; vector = Some vector })
came_of txn to (committed.Ended begin reads) = came.Say (record { said = said.Read to; txn = Some txn; reads = reads; vector = Some begin })
came_of txn to committed.InDoubt = came.Say (bare (said.InDoubt to) txn)
came_of txn to (committed.Failed why) = refused_for why txn
came_of txn to committed.Dropped = came.Again txn
