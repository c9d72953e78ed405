-- Which command the words are, and how it ends.
use Rattle.std.specs.Prelude.{◌≡◌, ◌⊎◌, ℕ, List, [], ◌∷◌, map, codes, string_bytes}
use Rattle.std.specs.declared.string.String.{String}
use Rattle.std.specs.declared.alloc.Global.{Global}
use Rattle.dm_disk.specs.Faults.{Rose}
use Rattle.dm_event.specs.declared.step.Step.{Step}
use Rattle.dm_top.specs.declared.ran.Ran.{Ran}
use Rattle.dm_top.specs.declared.ran.Ran.TheVariants.{Did}
use Rattle.dm_top.specs.declared.status.Status.{Status}
use Rattle.dm_top.specs.declared.status.Status.TheVariants as statuses
use Rattle.dm_top.specs.Check.{CheckEnds, Stops}
use Rattle.dm_top.specs.Ends.{Output}
use Rattle.dm_top.specs.Fetching.{Source}
use Rattle.dm_top.specs.Step.{StepEnds}

-- the words are `step` and the name of a step file
abbrev pub IsStep : List (String Global) → List ℕ → Type 0
IsStep words name = map string_bytes words ≡ codes "step" ∷ name ∷ []

-- the words are `check` and the names of a schema and of a history
abbrev pub IsCheck : List (String Global) → List ℕ → List ℕ → Type 0
IsCheck words schema history = map string_bytes words ≡ codes "check" ∷ schema ∷ history ∷ []

-- the words are no command
pub record IsNoCommand (words : List (String Global)) (source : Source) (old new : source.State) (out : Output) (history : List Step) (status : Status)
    : Type 0 where
  pub no_step : (name : List ℕ) → IsStep words name → ⊥
  pub no_check : (schema name : List ℕ) → IsCheck words schema name → ⊥
  pub bad : status ≡ statuses.BadWords
  pub stops : Stops source old new out history

abbrev pub EndsAs : List (String Global) → (source : Source) → source.State → source.State → Output → Ran → Type 0
EndsAs words source old new out (Did status history) =
    ((name : List ℕ) × IsStep words name × StepEnds source old new name out history.items status)
    ⊎ ((schema : List ℕ) × (name : List ℕ) × IsCheck words schema name × CheckEnds source old new schema name out history.items status)
    ⊎ IsNoCommand words source old new out history.items status

-- a command ends with a ReadFault only where the source's count of faults rose
abbrev pub FailedToRead : ℕ → ℕ → Ran → Type 0
FailedToRead before after (Did status history) = status ≡ statuses.ReadFault → Rose before after
