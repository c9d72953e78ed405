-- What the end of an attempt leaves of a site.
use Rattle.std.specs.Prelude.{◌≡◌, ℕ, List, [], Option}
use mathlib.Core.List.{IsPrefix}
use Rattle.dm_body.specs.declared.overlay.OpResult.{OpResult}
use Rattle.dm_body.specs.declared.overlay.OpResult.TheVariants as done
use Rattle.dm_event.specs.Entries.{commit_vector}
use Rattle.dm_event.specs.declared.actor.Actor.TheVariants.{Session, Site}
use Rattle.dm_event.specs.declared.step.Entry.{Entry}
use Rattle.dm_event.specs.declared.step.Pair.{Pair}
use Rattle.dm_event.specs.declared.step.Pending.TheVariants as pending
use Rattle.dm_locks.specs.Locks.{Locks, no_locks}
use Rattle.dm_logdisk.specs.Story.{Story}
use Rattle.dm_redo.specs.declared.appending.Appended.{Appended}
use Rattle.dm_disk.specs.Faults.{Rose}
use Rattle.dm_desk.specs.Causing.{IsCaused}
use Rattle.dm_desk.specs.Telling.{told_commit}
use Rattle.dm_site.specs.Answers.{IsEntryOf}
use Rattle.dm_invariant.specs.Running.{Going}
use Rattle.dm_invariant.specs.Stations.{Station, View, Went}
use Rattle.dm_invariant.specs.Turning.{Came}
use Rattle.dm_invariant.specs.Writing.{step_after, installed_after, locks_after}
use Rattle.dm_desk.specs.declared.answers.CommitAnswer.{CommitAnswer}
use Rattle.dm_desk.specs.declared.answers.CommitAnswer.TheVariants as committed
use Rattle.dm_desk.specs.declared.answers.OpAnswer.{OpAnswer}
use Rattle.dm_desk.specs.declared.answers.OpAnswer.TheVariants as answer

-- its number stays, and its store has at least what it had
pub record Ends {D : Type 0} (old new : Station D) : Type 0 where
  pub number : new.number ≡ old.number
  pub installed : IsPrefix old.installed new.installed
  pub pass : Went old.pass new.pass

-- where nothing is in doubt, who waits goes on to wait, and else nobody holds or waits
abbrev pub Lines : Locks → Locks → CommitAnswer → Type 0
Lines old new committed.InDoubt = new ≡ no_locks
Lines old new other = new.waiters ≡ old.waiters

abbrev pub told_of : OpResult → OpAnswer
told_of (done.Value v) = answer.Value v
told_of done.Done = answer.Done
told_of done.Full = answer.Dropped

abbrev pub reads_of : CommitAnswer → List Pair
reads_of (committed.Committed seq vector reads) = reads
reads_of (committed.Ended begin reads) = reads
reads_of other = []

-- the run's entry was appended, and the step that comes of it pushed
abbrev pub Wrote : {D : Type 0} → Going → Station D → Station D → View → View → CommitAnswer → Type 0
Wrote run old new own0 own1 a =
    (entry : Entry) × (how : Appended) × IsEntryOf run entry × (a ≡ told_commit how old.number entry.seq (commit_vector entry) entry.reads)
    × Came (Site old.number) (Session run.txn.session) own0 old.pass own1 new.pass (step_after old.number run.txn (pending.Commit entry) how)
    × (new.installed ≡ installed_after (pending.Commit entry) how old.installed) × (new.locks ≡ locks_after (pending.Commit entry) how old.locks)

-- what comes of a fault of the disk
abbrev pub IsCommitCaused : ℕ → Option Story → ℕ → ℕ → CommitAnswer → Type 0
IsCommitCaused site told before now committed.InDoubt = Rose before now
IsCommitCaused site told before now (committed.Failed why) = IsCaused site why told before now
IsCommitCaused site told before now other = Unit {0}
