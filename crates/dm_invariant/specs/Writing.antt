-- What a site makes of an append.
use Rattle.std.specs.Prelude.{◌≡◌, ◌≤◌, ℕ, List, [], ◌∷◌, ◌++◌, Option, Some, None, reverse, IsSome, IsTrue, IsFalse}
use Rattle.dm_event.specs.Layout.{Layout}
use Rattle.dm_event.specs.declared.actor.Actor.TheVariants.{Session, Site}
use Rattle.dm_event.specs.declared.step.Cause.{Cause}
use Rattle.dm_locks.specs.Claims.{without}
use Rattle.dm_model.specs.Doubts.{is_down}
use Rattle.dm_model.specs.Legal.{Legal}
use Rattle.dm_model.specs.Shape.{is_cause, is_cause_at}
use Rattle.dm_next.specs.Restarts.{IsOwn}
use Rattle.dm_others.specs.Adding.{AddsOthers}
use Rattle.dm_redo.specs.declared.comparing.AgainstFault.{AgainstFault}
use Rattle.dm_redo.specs.declared.comparing.AgainstFault.TheVariants as fault
use Rattle.dm_invariant.specs.Lasting.{Lasts}
use Rattle.dm_store.specs.Contents.{Contents}
use Rattle.dm_store.specs.Known.{AreKnown}
use Rattle.dm_store.specs.Rising.{fits}
use Rattle.dm_event.specs.declared.step.Cause.TheVariants.{Log, Damage}
use Rattle.dm_event.specs.declared.step.Pending.{Pending}
use Rattle.dm_event.specs.declared.step.Pending.TheVariants as pending
use Rattle.dm_event.specs.declared.step.Step.{Step}
use Rattle.dm_event.specs.declared.step.Step.TheVariants.{Fail, Doubt}
use Rattle.dm_event.specs.declared.step.TxnId.{TxnId}
use Rattle.dm_locks.specs.Locks.{Locks, no_locks}
use Rattle.dm_model.specs.Attempts.{routed}
use Rattle.dm_model.specs.Doubts.{step_of}
use Rattle.dm_redo.specs.declared.appending.Appended.{Appended}
use Rattle.dm_redo.specs.declared.appending.Appended.TheVariants as append
use Rattle.dm_store.specs.Histories.{past_of}
use Rattle.dm_store.specs.declared.past.Past.{Past}

-- the step that comes of it: the one whose record was appended, or the attempt's Fail for the log, or the site's Doubt
abbrev pub step_after : ℕ → TxnId → Pending → Appended → Step
step_after site txn p append.Done = step_of site p
step_after site txn p append.Undone = Fail site txn (Log site)
step_after site txn p append.Doubt = Doubt site p

-- a commit is installed
abbrev pub installed_after : Pending → Appended → List Past → List Past
installed_after (pending.Commit entry) append.Done installed = installed ++ past_of entry ∷ []
installed_after p other installed = installed

-- the attempt holds nothing any more, and who waits goes on to wait
abbrev pub let_go : TxnId → Locks → Locks
let_go txn locks = record locks { holders = without txn locks.holders }

-- a commit gives its locks back, also where it failed, and in doubt nobody holds or waits
abbrev pub locks_after : Pending → Appended → Locks → Locks
locks_after p append.Doubt locks = no_locks
locks_after (pending.Commit entry) other locks = let_go entry.txn locks
locks_after p other locks = locks

-- whose attempt it is: a commit's own, or for a hand-over one that stands routed
abbrev pub IsFor : List Step → TxnId → Pending → Type 0
IsFor past txn (pending.Commit entry) = entry.txn ≡ txn
IsFor past txn p = IsSome (routed txn past)

-- the store has room for a commit, and knows its keys
abbrev pub HasRoomFor : Contents → Pending → Type 0
HasRoomFor store (pending.Commit entry) = AreKnown store.known entry.writes × (1 ≤ store.spare)
HasRoomFor store p = Unit {0}

-- a commit may be installed behind what the store has
abbrev pub FitsBehind : List Past → Pending → Type 0
FitsBehind installed (pending.Commit entry) = IsTrue (fits installed (past_of entry))
FitsBehind installed p = Unit {0}

-- each of a site's own causes is one for which the attempt may fail, whatever others do
abbrev pub MayFail : Layout → ℕ → TxnId → List Step → Type 0
MayFail layout site txn old =
    (cause : Cause) → IsTrue (is_cause layout cause) → IsTrue (is_cause_at layout site cause)
    → Lasts layout (Site site) (Session txn.session) old (Fail site txn cause)

-- the step in doubt may come, whatever others do, or its attempt fail
pub record MayAppend (layout : Layout) (site : ℕ) (txn : TxnId) (p : Pending) (old : List Step) : Type 0 where
  pub up : IsFalse (is_down site (reverse old))
  pub is_own : IsOwn site p
  pub is_for : (new : List Step) → Legal layout new → AddsOthers (Session txn.session) old new → IsFor (reverse new) txn p
  pub lasts : Lasts layout (Site site) (Session txn.session) old (step_of site p)
  pub may_fail : Lasts layout (Site site) (Session txn.session) old (Fail site txn (Log site))

-- the cause for which an attempt fails where a load does, but for want of memory
abbrev pub cause_of : ℕ → AgainstFault → Option Cause
cause_of site fault.Log = Some (Log site)
cause_of site (fault.Differs place read written) = Some (Damage site place read written)
cause_of site fault.Memory = None
