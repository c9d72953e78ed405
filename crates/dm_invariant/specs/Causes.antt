-- What a site's faults are for.
use Rattle.std.specs.Prelude.{◌≡◌, ◌⊎◌, ◌≤◌, ◌+◌, ◌-◌, ◌^◌, ℕ, List, [], ◌∷◌, Option, Some, IsNone}
use Rattle.dm_event.specs.declared.step.Cause.TheVariants.{Damage}
use Rattle.dm_event.specs.declared.step.Choice.{Choice}
use Rattle.dm_event.specs.declared.step.Found.TheVariants.{Clean}
use Rattle.dm_event.specs.declared.step.Step.{Step}
use Rattle.dm_event.specs.declared.step.Step.TheVariants.{Fail, Restart}
use Rattle.dm_event.specs.declared.step.TxnId.{TxnId}
use Rattle.dm_event.specs.declared.step.Want.TheVariants as want
use Rattle.dm_frames.specs.Records.{frames_of}
use Rattle.dm_logdisk.specs.Story.{Story}
use Rattle.dm_model.specs.Attempts.{routed}
use Rattle.dm_others.specs.Faults.{faults}
use Rattle.dm_redo.specs.Comparing.{IsExpectedAt}
use Rattle.dm_invariant.specs.Logs.{doubted}

-- A Fail at the site for damage carries the byte that is expected there, and comes only on a disk that doesn't tell. A Restart that
-- finds nothing in doubt stands where some attempt is routed for a Restart of the site.
abbrev pub HasCause : ℕ → Option Story → Step → List Step → Type 0
HasCause site told (Fail at txn (Damage of place read written)) past =
    at ≡ site → IsExpectedAt (frames_of site past) (doubted site past) place written × IsNone told
HasCause site told (Restart at vector Clean) past =
    at ≡ site → (txn : TxnId) × (min : List ℕ) × (choice : Choice)
    × (routed txn past ≡ Some (record { txn = txn; want = want.Restart; min = min; site = site; choice = choice }))
HasCause site told step past = Unit {0}

abbrev pub HaveCauses : ℕ → Option Story → List Step → Type 0
HaveCauses site told [] = Unit {0}
HaveCauses site told (step ∷ past) = HasCause site told step past × HaveCauses site told past

-- The Fails for the log and the Doubts are together at most the rise of the disk's count since the opening, unless that stands at its
-- last value.
pub record Caused (opened : ℕ) (site : ℕ) (past : List Step) (told : Option Story) (now : ℕ) : Type 0 where
  pub few : (opened + faults site past ≤ now) ⊎ (2 ^ 64 - 1 ≤ now)
  pub each : HaveCauses site told past
