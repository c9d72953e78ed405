-- What tidying the end of a log does.
use Rattle.std.specs.Prelude.{◌≡◌, ℕ, ◌+◌, ◌≤◌, List, length, take, Result, OnOk}
use Rattle.dm_logdisk.specs.Story.{Story, bytes_of, IsDurable, LeavesOnly}
use Rattle.dm_redo.specs.Holding.{Holds, Stands, IsAt}

-- Where nothing is pending, a crash at any moment leaves what the file holds, and nothing is pending in the end.
abbrev pub KeepsHeld : {E : Type 0} → List (List ℕ) → Result (Unit {0}) E → Story → Story → Type 0
KeepsHeld frames result old new = IsDurable old → LeavesOnly (Holds frames) old new × OnOk result (IsDurable new)

-- the file was cut behind its gate
abbrev pub Shortens : {E : Type 0} → ℕ → Result (Unit {0}) E → Story → Story → Type 0
Shortens gate result old new = (frames : List (List ℕ)) → Stands frames gate old →
    OnOk result (Stands frames gate new × (length (bytes_of new) ≤ gate + 1)) × KeepsHeld frames result old new

-- the gate was closed, in a file that ends there or right behind it
abbrev pub Closes : {E : Type 0} → ℕ → Result (Unit {0}) E → Story → Story → Type 0
Closes gate result old new = (frames : List (List ℕ)) → Stands frames gate old → length (bytes_of old) ≤ gate + 1 →
    OnOk result (IsAt frames gate new) × KeepsHeld frames result old new

-- first the one, then the other
abbrev pub Tidies : {E : Type 0} → ℕ → Result (Unit {0}) E → Story → Story → Type 0
Tidies gate result old new = (frames : List (List ℕ)) → Stands frames gate old → OnOk result (IsAt frames gate new) × KeepsHeld frames result old new

-- the file ends where the other does, or right behind the gate
abbrev pub IsCut : ℕ → Story → Story → Type 0
IsCut gate old new = bytes_of new ≡ take (gate + 1) (bytes_of old)
