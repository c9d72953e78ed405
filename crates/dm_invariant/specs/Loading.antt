-- What a load says of a site's log.
use Rattle.std.specs.Prelude.{◌≡◌, ◌≢◌, ◌≤◌, ℕ, Bool, List, Option, Result, IsTrue, IsNone, IfOk, IfErr}
use Rattle.dm_disk.specs.Faults.{Rose}
use Rattle.dm_event.specs.declared.step.Found.{Found}
use Rattle.dm_event.specs.declared.step.Found.TheVariants.{Clean}
use Rattle.dm_invariant.specs.Keeping.{Parts}
use Rattle.dm_logdisk.specs.Story.{Story, Both}
use Rattle.dm_redo.specs.Comparing.{Shows, TellsExpected}
use Rattle.dm_redo.specs.Settling.{Keeps as Tidies, Stood}
use Rattle.dm_redo.specs.declared.comparing.AgainstFault.{AgainstFault}
use Rattle.dm_redo.specs.declared.comparing.AgainstFault.TheVariants as fault

-- what a load against the site's frames, and that of the step in doubt, says of the log before and after it
pub record LoadedAgainst (before : Parts) (frames : List (List ℕ)) (pending : Option (List ℕ)) (result : Result Found AgainstFault)
    (live : Bool) (gate : ℕ) (told : Option Story) (faults : ℕ) : Type 0 where
  pub says : Shows frames pending result before.told
  pub keeps : Both (Tidies frames pending) before.told told
  pub stands : IfOk result (λ found. Both (Stood frames pending found gate) before.told told)
  pub is_live : IfOk result (λ _. IsTrue live)
  pub dead : IfErr result (λ _. IsTrue live → ⊥)
  pub count : before.faults ≤ faults
  pub clean : IfOk result (λ found. found ≡ Clean → IsNone pending)
  pub no_doubt : IfOk result (λ found. IsNone pending → found ≡ Clean)
  pub apart : IfErr result (λ e. (place : ℕ) (read written : Option ℕ) → e ≡ fault.Differs place read written → read ≢ written)
  pub expected : IfErr result (TellsExpected frames pending)
  pub cause : IfErr result (λ e. e ≡ fault.Log → Rose before.faults faults)
