-- What an append says of a site's log, and what may be appended.
use Rattle.std.specs.Prelude.{◌≡◌, ◌≢◌, ◌↔◌, ◌+◌, ◌≤◌, ℕ, Bool, List, Option, length, IsTrue, IsFalse}
use Rattle.dm_disk.specs.Faults.{Rose}
use Rattle.dm_event.specs.Layout.{Layout}
use Rattle.dm_event.specs.declared.step.Cause.TheVariants.{Log}
use Rattle.dm_event.specs.declared.step.Pending.{Pending}
use Rattle.dm_event.specs.declared.step.Step.{Step}
use Rattle.dm_event.specs.declared.step.Step.TheVariants.{Fail}
use Rattle.dm_event.specs.declared.step.TxnId.{TxnId}
use Rattle.dm_invariant.specs.Keeping.{Parts}
use Rattle.dm_invariant.specs.Writing.{IsFor}
use Rattle.dm_logdisk.specs.Story.{Story, Both}
use Rattle.dm_model.specs.Allowed.{Allowed}
use Rattle.dm_model.specs.Doubts.{is_down, step_of}
use Rattle.dm_next.specs.Restarts.{IsOwn}
use Rattle.dm_redo.specs.Appending.{Appends}
use Rattle.dm_redo.specs.declared.appending.Appended.{Appended}
use Rattle.dm_redo.specs.declared.appending.Appended.TheVariants as append

-- what an append says of the log before and after it
pub record AppendedTo (before : Parts) (frame : List ℕ) (done : Appended) (live : Bool) (gate : ℕ) (told : Option Story) (faults : ℕ) : Type 0 where
  pub story : Both (Appends before.gate frame done) before.told told
  pub is_live : IsTrue live ↔ done ≡ append.Done
  pub at_gate : done ≡ append.Done → gate ≡ before.gate + length frame + 1
  pub count : before.faults ≤ faults
  pub cause : done ≢ append.Done → Rose before.faults faults

-- a pending step of the site that may come, for which its attempt may fail
pub record MayWrite (layout : Layout) (site : ℕ) (past : List Step) (txn : TxnId) (p : Pending) : Type 0 where
  pub up : IsFalse (is_down site past)
  pub is_own : IsOwn site p
  pub is_for : IsFor past txn p
  pub allowed : Allowed layout past (step_of site p)
  pub may_fail : Allowed layout past (Fail site txn (Log site))
