-- For which steps there is room.
use Rattle.std.specs.List.{sum_by}
use Rattle.std.specs.Prelude.{ℕ, ◌+◌, ◌-◌, ◌≤◌, ◌≡◌, true, List, IfSome, IsTrue, length, map}
use Rattle.dm_event.specs.Layout.{Layout, is_site}
use Rattle.dm_event.specs.Vectors.{sites_to}
use Rattle.dm_event.specs.declared.limits.TheConstants.{MAX_KEYS}
use Rattle.dm_event.specs.declared.step.Entry.{Entry}
use Rattle.dm_event.specs.declared.step.Pending.{Pending}
use Rattle.dm_event.specs.declared.step.Pending.TheVariants as pending
use Rattle.dm_event.specs.declared.step.Step.{Step}
use Rattle.dm_event.specs.declared.step.Step.TheVariants.{Begin}
use Rattle.dm_event.specs.declared.step.TxnId.{TxnId}
use Rattle.dm_index.specs.Rooms.{room_at}
use Rattle.dm_kept.specs.Ledger.{Ledger, past}
use Rattle.dm_model.specs.Attempts.{declared}
use Rattle.dm_model.specs.Doubts.{pending_at}
use Rattle.dm_model.specs.Runs.{runs}
use Rattle.dm_model.specs.Shape.{is_ascending}
use Rattle.dm_model.specs.Tests.{is_among}
use Rattle.dm_room.specs.Installs.{installs_to_come}
use Rattle.dm_room.specs.Room.{kept, need}
use Rattle.dm_store.specs.Contents.{Contents}
use Rattle.dm_store.specs.Known.{AreKnown}
use Rattle.dm_store.specs.Rising.{is_above}

-- each of the keys is known
abbrev pub KnowsKeys : List ℕ → List ℕ → Type 0
KnowsKeys known keys = (key : ℕ) → is_among keys key ≡ true → IsTrue (is_among known key)

-- the keys that a pending commit writes are known
abbrev pub KnowsPending : List ℕ → Pending → Type 0
KnowsPending known (pending.Commit entry) = AreKnown known entry.writes
KnowsPending known (pending.Release part epoch to vector) = Unit {0}
KnowsPending known (pending.Grant part epoch vector) = Unit {0}

-- how many installs may still come at all sites without a further Begin
abbrev pub all_to_come : Layout → List Step → ℕ
all_to_come layout past = sum_by (λ site. installs_to_come site past) (sites_to layout.sites)

-- what is under way has room to come to its end: for each step that is kept, for each install that is to come a place of its origin
-- and one in the store, and the keys of the attempts that run and of the commits in doubt are known
pub record KeepsRoom (k : Ledger) : Type 0 where
  pub steps : kept k.layout k.items (past k) ≤ k.room
  pub places : (site : ℕ) → is_site k.layout site ≡ true → installs_to_come site (past k) ≤ room_at k.places (site - 1)
  pub installs : all_to_come k.layout (past k) ≤ k.installs
  pub running : (site : ℕ) (txn : TxnId) → runs site txn (past k) ≡ true → KnowsKeys k.known (declared txn (past k))
  pub doubted : (site : ℕ) → IfSome (pending_at site (past k)) (KnowsPending k.known)

-- what an attempt that begins at the site takes: its place among those that run, one more install to come there, and its keys
pub record MayBegin (k : Ledger) (site : ℕ) (txn : TxnId) : Type 0 where
  pub begins : 1 ≤ k.begins
  pub place : installs_to_come site (past k) + 1 ≤ room_at k.places (site - 1)
  pub install : all_to_come k.layout (past k) + 1 ≤ k.installs
  pub known : KnowsKeys k.known (declared txn (past k))

abbrev pub HasBegin : Ledger → Step → Type 0
HasBegin k (Begin site txn begin) = MayBegin k site txn
HasBegin k step = Unit {0}

-- there is room for the step beside what is kept for others
pub record HasRoom (k : Ledger) (step : Step) : Type 0 where
  pub steps : kept k.layout k.items (past k) + need k.layout k.items (past k) step ≤ k.room
  pub begin : HasBegin k step

-- the store takes the entry
pub record MayInstall (store : Contents) (e : Entry) : Type 0 where
  pub few : length e.writes ≤ MAX_KEYS
  pub ascends : IsTrue (is_ascending (map (λ p. p.key) e.writes))
  pub known : AreKnown store.known e.writes
  pub room : 1 ≤ store.spare
  pub rising : IsTrue (is_above store.installed e.origin e.seq)
