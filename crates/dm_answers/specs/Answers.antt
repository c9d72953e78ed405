-- What it is for a session's steps to answer the items of its script, one after the other.
use Rattle.std.specs.Prelude.{ℕ, ◌+◌, ◌≡◌, ◌≢◌, ◌⊎◌, true, ◌==◌, if◌then◌else◌, List, [], ◌∷◌, ◌++◌, Option, Some, None, slice_get, filter_map}
use Rattle.dm_chronicle.specs.Belongs.{belongs}
use Rattle.dm_chronicle.specs.Rule.{In}
use Rattle.dm_event.specs.Actors.{actors}
use Rattle.dm_event.specs.declared.actor.Actor.TheVariants.{Session}
use Rattle.dm_event.specs.declared.step.Cause.{Cause}
use Rattle.dm_event.specs.declared.step.Cause.TheVariants as cause
use Rattle.dm_event.specs.declared.step.Choice.{Choice}
use Rattle.dm_event.specs.declared.step.Choice.TheVariants.{Hand}
use Rattle.dm_event.specs.declared.step.Entry.{Entry}
use Rattle.dm_event.specs.declared.step.Op.{Op}
use Rattle.dm_event.specs.declared.step.Pair.{Pair}
use Rattle.dm_event.specs.declared.step.Pending.TheVariants as pending
use Rattle.dm_event.specs.declared.step.Said.{Said}
use Rattle.dm_event.specs.declared.step.Said.TheVariants as said
use Rattle.dm_event.specs.declared.step.Step.{Step}
use Rattle.dm_event.specs.declared.step.Step.TheVariants.{Route, Reply, Begin, Moved, Commit, End, Fail, Doubt}
use Rattle.dm_event.specs.declared.step.TxnId.{TxnId}
use Rattle.dm_event.specs.declared.step.Want.{Want}
use Rattle.dm_event.specs.declared.step.Want.TheVariants as want
use Rattle.dm_model.specs.Bodies.{first_undeclared}
use Rattle.dm_answers.specs.declared.item.Item.{Item}
use Rattle.dm_answers.specs.declared.item.Item.TheVariants.{Txn, Place, Restart as RestartItem}

-- the step is the last
abbrev pub EndsIn : List Step → Step → Type 0
EndsIn steps s = (before : List Step) × (steps ≡ before ++ s ∷ [])

-- ---- the steps on the way to the Reply

-- a Route for the item: a transaction that writes an undeclared key has none, another wants its declared keys and is sent by
-- no hand; a partition is placed, and a site restarted, by hand and there
abbrev pub FitsRoute : Item → Want → ℕ → Choice → Type 0
FitsRoute (Txn body) wanted site choice = (wanted ≡ want.Txn body.declared) × (choice ≢ Hand) × (first_undeclared body.declared body.ops ≡ None)
FitsRoute (Place part to) wanted site choice = (wanted ≡ want.Place part) × (site ≡ to) × (choice ≡ Hand)
FitsRoute (RestartItem to) wanted site choice = (wanted ≡ want.Restart) × (site ≡ to) × (choice ≡ Hand)

-- the ops of a Commit, an End or a pending commit are the item's
abbrev pub HasOps : Item → List Op → Type 0
HasOps (Txn body) ops = ops ≡ body.ops
HasOps other ops = ⊥

module _ (c n : ℕ) (item : Item) where
  -- an attempt at the session's item with this number
  abbrev pub IsOf : TxnId → Type 0
  IsOf txn = (txn.session ≡ c) × (txn.number ≡ n)

  -- a step of the session on the way to the Reply to this item
  abbrev pub Tries : Step → Type 0
  Tries (Route txn wanted min site choice) = IsOf txn × FitsRoute item wanted site choice
  Tries (Begin site txn begin) = IsOf txn
  Tries (Moved site txn) = IsOf txn
  Tries (Commit e) = IsOf e.txn × HasOps item e.ops
  Tries (End site txn ops reads) = IsOf txn × HasOps item ops
  Tries (Fail site txn why) = IsOf txn
  Tries (Doubt site (pending.Commit e)) = IsOf e.txn × HasOps item e.ops
  Tries other = ⊥

  abbrev pub EachTries : List Step → Type 0
  EachTries [] = Unit {0}
  EachTries (s ∷ ss) = Tries s × EachTries ss

-- ---- what the outcome says of the item and of the last step on the way

-- the attempt failed for its log, or for damage; memory may be wanting at any place
abbrev pub FitsRefused : Cause → List Step → Type 0
FitsRefused (cause.Undeclared key) way = ⊥
FitsRefused (cause.Log site) way = (txn : TxnId) × EndsIn way (Fail site txn (cause.Log site))
FitsRefused (cause.Damage site place read written) way = (txn : TxnId) × EndsIn way (Fail site txn (cause.Damage site place read written))
FitsRefused cause.Memory way = Unit {0}

abbrev pub FitsTxn : List Op → Said → List Step → Type 0
FitsTxn ops (said.Committed site seq) way = (e : Entry) × EndsIn way (Commit e) × (e.origin ≡ site) × (e.seq ≡ seq) × (e.ops ≡ ops)
FitsTxn ops (said.Read site) way = (txn : TxnId) × (reads : List Pair) × EndsIn way (End site txn ops reads)
FitsTxn ops (said.InDoubt site) way = (e : Entry) × EndsIn way (Doubt site (pending.Commit e)) × (e.ops ≡ ops)
FitsTxn ops (said.Refused why) way = FitsRefused why way
FitsTxn ops other way = ⊥

-- with the key of its first undeclared write, if there is one
abbrev pub FitsBody : Option ℕ → List Op → Said → List Step → Type 0
FitsBody (Some key) ops o way = (o ≡ said.Refused (cause.Undeclared key)) × (way ≡ [])
FitsBody None ops o way = FitsTxn ops o way

abbrev pub FitsPlace : ℕ → ℕ → Said → List Step → Type 0
FitsPlace part to (said.Placed p site epoch) way = (p ≡ part) × (site ≡ to)
FitsPlace part to (said.Refused why) way = FitsRefused why way
FitsPlace part to other way = ⊥

abbrev pub FitsRestart : ℕ → Said → List Step → Type 0
FitsRestart to (said.Restarted site) way = site ≡ to
FitsRestart to (said.Refused why) way = FitsRefused why way
FitsRestart to other way = ⊥

abbrev pub Fits : Item → Said → List Step → Type 0
Fits (Txn body) o way = FitsBody (first_undeclared body.declared body.ops) body.ops o way
Fits (Place part to) o way = FitsPlace part to o way
Fits (RestartItem to) o way = FitsRestart to o way

-- ---- items one after the other

-- these are the session's steps for one item, the last of which is its one Reply
abbrev pub Told : ℕ → ℕ → Item → Said → List Step → Type 0
Told c n item o steps = (way : List Step) × (steps ≡ way ++ Reply c n o ∷ []) × EachTries c n item way × Fits item o way

-- these are the session's steps for the items, the first of which has number n
abbrev pub Answers : ℕ → ℕ → List Item → List Step → Type 0
Answers c n [] steps = steps ≡ []
Answers c n (item ∷ items) steps =
    (here : List Step) × (o : Said) × (more : List Step) × (steps ≡ here ++ more) × Told c n item o here × Answers c (n + 1) items more

-- ---- the same of the whole history

-- n, n + 1, .. as many as there are items
abbrev pub upward : ℕ → List Item → List ℕ
upward n [] = []
upward n (x ∷ xs) = n ∷ upward (n + 1) xs

-- the number of the session's Reply
abbrev pub number_told : ℕ → Step → Option ℕ
number_told c (Reply session number o) = if session == c then Some number else None
number_told c s = None

abbrev pub numbers_told : ℕ → List Step → List ℕ
numbers_told c h = filter_map (number_told c) h

-- a step of the history for the session's item with this number
abbrev pub ForItem : ℕ → ℕ → Item → List Step → Step → Type 0
ForItem c n item h s =
    Tries c n item s ⊎ ((o : Said) × (way : List Step) × (s ≡ Reply c n o) × Fits item o way × ((x : Step) → In x way → In x h))

-- the session's Replies have the numbers from 1 on up to the count of its items, each once and in order, and each of its steps
-- is one for the item that it names
pub record Answered (c : ℕ) (items : List Item) (h : List Step) : Type 0 where
  pub numbers : numbers_told c h ≡ upward 1 items
  pub each : (s : Step) → In s h → belongs actors s (Session c) ≡ true
      → (k : ℕ) × (item : Item) × (slice_get items k ≡ Some item) × ForItem c (k + 1) item h s
