-- What a turn tells of a hand-over, and what the hand-over leaves of a site.
use Rattle.std.specs.Prelude.{◌≡◌, ◌+◌, ℕ, Option, Some, None, reverse}
use mathlib.Core.List.{IsPrefix}
use Rattle.dm_disk.specs.Faults.{Rose}
use Rattle.dm_event.specs.Vectors.{AtMost}
use Rattle.dm_event.specs.declared.placing.Placing.TheVariants as placing
use Rattle.dm_event.specs.declared.step.Pending.{Pending}
use Rattle.dm_event.specs.declared.step.Pending.TheVariants as pending
use Rattle.dm_locks.specs.Locks.{Locks, no_locks}
use Rattle.dm_logdisk.specs.Story.{Story}
use Rattle.dm_model.specs.Allowed.{runner}
use Rattle.dm_model.specs.Progress.{site_vector}
use Rattle.dm_record.specs.Bytes.{IsInRange}
use Rattle.dm_record.specs.declared.record.Record.TheVariants as record_is
use Rattle.dm_desk.specs.Causing.{IsCaused}
use Rattle.dm_site.specs.Answers.{IsAskedAway, IsDownIn, IsOnItsWay, IsUpIn, placing_in}
use Rattle.dm_site.specs.Catching.{IsCountedIn}
use Rattle.dm_invariant.specs.Stations.{Station, View, Went, layout_of}
use Rattle.dm_desk.specs.declared.answers.GrantAnswer.{GrantAnswer}
use Rattle.dm_desk.specs.declared.answers.GrantAnswer.TheVariants as granted
use Rattle.dm_desk.specs.declared.answers.ReleaseAnswer.{ReleaseAnswer}
use Rattle.dm_desk.specs.declared.answers.ReleaseAnswer.TheVariants as released
use Rattle.dm_desk.specs.declared.telling.GrantDue.{GrantDue}
use Rattle.dm_desk.specs.declared.telling.GrantDue.TheVariants as grants
use Rattle.dm_desk.specs.declared.telling.ReleaseDue.{ReleaseDue}
use Rattle.dm_desk.specs.declared.telling.ReleaseDue.TheVariants as releases

-- ---- what it says of the history

abbrev pub IsReleaseDue : ℕ → ℕ → View → ReleaseDue → Type 0
IsReleaseDue site part pass (releases.Ready epoch to vector) =
    IsUpIn pass site × (placing_in pass part ≡ placing.Asked site epoch to) × (runner (layout_of pass) (reverse pass.seen) site part ≡ None)
    × (vector ≡ site_vector (layout_of pass).sites (reverse pass.seen) site)
IsReleaseDue site part pass (releases.Not (released.Running txn)) =
    IsUpIn pass site × IsAskedAway site (placing_in pass part) × (runner (layout_of pass) (reverse pass.seen) site part ≡ Some txn)
IsReleaseDue site part pass (releases.Not (released.Passed now)) = IsUpIn pass site × (placing_in pass part ≡ now) × (IsAskedAway site now → ⊥)
IsReleaseDue site part pass (releases.Not released.Down) = IsDownIn pass site
IsReleaseDue site part pass (releases.Not other) = ⊥

abbrev pub IsGrantDue : ℕ → ℕ → View → GrantDue → Type 0
IsGrantDue site part pass (grants.Ready epoch vector) =
    IsUpIn pass site × ((from : ℕ) × (placing_in pass part ≡ placing.Between from epoch site vector))
    × AtMost vector (site_vector (layout_of pass).sites (reverse pass.seen) site)
IsGrantDue site part pass (grants.Behind vector) =
    IsUpIn pass site × ((from : ℕ) × (epoch : ℕ) × (placing_in pass part ≡ placing.Between from epoch site vector)) × IsCountedIn vector pass
IsGrantDue site part pass (grants.Not (granted.Passed now)) = IsUpIn pass site × (placing_in pass part ≡ now) × (IsOnItsWay site now → ⊥)
IsGrantDue site part pass (grants.Not granted.Down) = IsDownIn pass site
IsGrantDue site part pass (grants.Not other) = ⊥

-- the record of the step has its ranges
abbrev pub IsReleaseInRange : ℕ → ReleaseDue → Type 0
IsReleaseInRange part (releases.Ready epoch to vector) = IsInRange (record_is.Release part epoch to vector)
IsReleaseInRange part (releases.Not answer) = Unit {0}

abbrev pub IsGrantInRange : ℕ → GrantDue → Type 0
IsGrantInRange part (grants.Ready epoch vector) = IsInRange (record_is.Grant part (epoch + 1) vector)
IsGrantInRange part other = Unit {0}

-- the step in doubt would be one of a hand-over
abbrev pub IsHandOver : Pending → Type 0
IsHandOver (pending.Commit entry) = ⊥
IsHandOver p = Unit {0}

-- ---- what it leaves

-- its number stays, and what its store has
pub record Hands {D : Type 0} (old new : Station D) : Type 0 where
  pub number : new.number ≡ old.number
  pub installed : new.installed ≡ old.installed
  pub pass : Went old.pass new.pass

-- the same, but for what it caught up to
pub record HandsIn {D : Type 0} (old new : Station D) : Type 0 where
  pub number : new.number ≡ old.number
  pub installed : IsPrefix old.installed new.installed
  pub pass : Went old.pass new.pass

-- where nothing is in doubt, who waits goes on to wait, and else nobody holds or waits

abbrev pub LinesRelease : Locks → Locks → ReleaseAnswer → Type 0
LinesRelease old new released.InDoubt = new ≡ no_locks
LinesRelease old new other = new.waiters ≡ old.waiters

abbrev pub LinesGrant : Locks → Locks → GrantAnswer → Type 0
LinesGrant old new granted.InDoubt = new ≡ no_locks
LinesGrant old new other = new.waiters ≡ old.waiters

-- what comes of a fault of the disk

abbrev pub IsReleaseCaused : ℕ → Option Story → ℕ → ℕ → ReleaseAnswer → Type 0
IsReleaseCaused site told before now released.InDoubt = Rose before now
IsReleaseCaused site told before now (released.Failed why) = IsCaused site why told before now
IsReleaseCaused site told before now other = Unit {0}

abbrev pub IsGrantCaused : ℕ → Option Story → ℕ → ℕ → GrantAnswer → Type 0
IsGrantCaused site told before now granted.InDoubt = Rose before now
IsGrantCaused site told before now (granted.Failed why) = IsCaused site why told before now
IsGrantCaused site told before now other = Unit {0}
