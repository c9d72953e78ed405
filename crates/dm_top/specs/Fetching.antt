-- What a command asks of a source.
use Rattle.std.specs.Prelude.{◌≡◌, ◌⊎◌, ℕ, ◌≤◌, List, Option, Result, Ok, Err}
use Rattle.std.specs.Global.{Vec}
use Rattle.dm_disk.specs.declared.outside.Fetched.{Fetched}
use Rattle.dm_disk.specs.declared.outside.Fetched.TheVariants as fetched
use Rattle.dm_disk.specs.Faults.{Rose}
use Rattle.dm_disk.specs.Fetching.{Files, Fetches, FitsLimit}
use Rattle.dm_top.specs.declared.status.Status.{Status}
use Rattle.dm_top.specs.declared.status.Status.TheVariants as statuses

-- a source, whatever its states are: its files where it tells them, its count of faults, and what a fetch between two states of a
-- name and with a limit may have answered
pub record Source : Type 1 where
  pub State : Type 0
  pub files : State → Option Files
  pub faults : State → ℕ
  pub finds : State → State → List ℕ → ℕ → Fetched → Type 0

-- between these states one fetch of the name, with the limit, gave this answer
pub record Fetch (source : Source) (old new : source.State) (name : List ℕ) (limit : ℕ) (answer : Fetched) : Type 0 where
  pub came : source.finds old new name limit answer
  pub same : source.files new ≡ source.files old
  pub told : Fetches (source.files old) name limit answer
  pub fits : FitsLimit limit answer
  pub count : source.faults old ≤ source.faults new
  pub failed : answer ≡ fetched.Failed → Rose (source.faults old) (source.faults new)

-- the status where no bytes were found
abbrev pub Unfound : List ℕ → ℕ → Fetched → Status → Type 0
Unfound name limit (fetched.Found bytes) status = ⊥
Unfound name limit fetched.Absent status = (status ≡ statuses.Absent name) ⊎ (status ≡ statuses.Memory)
Unfound name limit fetched.TooLong status = (status ≡ statuses.TooLong name limit) ⊎ (status ≡ statuses.Memory)
Unfound name limit fetched.Failed status = status ≡ statuses.ReadFault
Unfound name limit fetched.NoMemory status = status ≡ statuses.Memory

-- how a command ends after this answer: it goes on with the bytes that were found, or it stops
abbrev pub EndsAfter : (List ℕ → Type 0) → Type 0 → List ℕ → ℕ → Fetched → Status → Type 0
EndsAfter GoesOn Stops name limit (fetched.Found bytes) status = GoesOn bytes.items
EndsAfter GoesOn Stops name limit fetched.Absent status = Unfound name limit fetched.Absent status × Stops
EndsAfter GoesOn Stops name limit fetched.TooLong status = Unfound name limit fetched.TooLong status × Stops
EndsAfter GoesOn Stops name limit fetched.Failed status = Unfound name limit fetched.Failed status × Stops
EndsAfter GoesOn Stops name limit fetched.NoMemory status = Unfound name limit fetched.NoMemory status × Stops

-- the bytes that one fetch found, or the status that it leads to
abbrev pub Asked : (source : Source) → source.State → source.State → List ℕ → ℕ → Result (Vec ℕ) Status → Type 0
Asked source old new name limit (Ok bytes) = Fetch source old new name limit (fetched.Found bytes)
Asked source old new name limit (Err status) = (answer : Fetched) × Fetch source old new name limit answer × Unfound name limit answer status
