-- What loading against what was written does to a disk of which something may be pending.
use Rattle.std.specs.Prelude.{◌≡◌, ℕ, ◌+◌, ◌≤◌, List, length, Option, Some, None, Result, Ok, OnOk}
use Rattle.dm_logdisk.specs.Story.{Story, bytes_of, EachImage, IsDurable, LeavesOnly}
use Rattle.dm_event.specs.declared.step.Found.{Found}
use Rattle.dm_redo.specs.Holding.{framed, Holds, Stands, IsAt, IsBeforeOrAfter}
use Rattle.dm_redo.specs.Comparing.{compared, stood}

-- the written frames, with the pending one or without it
abbrev pub MayHold : List (List ℕ) → Option (List ℕ) → List ℕ → Type 0
MayHold written None bytes = Holds written bytes
MayHold written (Some frame) bytes = IsBeforeOrAfter written frame bytes

-- the comparison with the file finds something, and so it stands in the file
abbrev pub Agrees : List (List ℕ) → Option (List ℕ) → List ℕ → Type 0
Agrees written pending file = (found : Found) × (compared (framed written) pending file ≡ Ok found) × Holds (stood found written pending) file

-- a file that holds what was written, with the pending frame or without it, agrees with it
abbrev pub IsAgreed : Type 0
IsAgreed = (written : List (List ℕ)) (pending : Option (List ℕ)) (file : List ℕ) → MayHold written pending file → Agrees written pending file

-- a crash at any moment from the one to the other leaves the written frames, with the pending one or without it, if each image held them so
abbrev pub Keeps : List (List ℕ) → Option (List ℕ) → Story → Story → Type 0
Keeps written pending old new = EachImage (MayHold written pending) old → LeavesOnly (MayHold written pending) old new

-- the disk stands at the frames that were found, and nothing is pending
abbrev pub Stood : List (List ℕ) → Option (List ℕ) → Found → ℕ → Story → Story → Type 0
Stood written pending found gate old new = IsAt (stood found written pending) gate new × IsDurable new

-- the cut alone: the file reads as before, up to one byte behind the gate
abbrev pub Cuts : {E : Type 0} → ℕ → Result (Unit {0}) E → Story → Story → Type 0
Cuts gate result old new = (found : Found) (written : List (List ℕ)) (pending : Option (List ℕ)) → Stands (stood found written pending) gate old →
    Keeps written pending old new
    × OnOk result (Stands (stood found written pending) gate new × (length (bytes_of new) ≤ gate + 1))

-- the cut and a sync: nothing is pending
abbrev pub Settles : {E : Type 0} → ℕ → Result (Unit {0}) E → Story → Story → Type 0
Settles gate result old new = (found : Found) (written : List (List ℕ)) (pending : Option (List ℕ)) → Stands (stood found written pending) gate old →
    Keeps written pending old new
    × OnOk result (Stands (stood found written pending) gate new × IsDurable new × (length (bytes_of new) ≤ gate + 1))

-- the cut, a sync, and a closed gate
abbrev pub Firms : {E : Type 0} → ℕ → Result (Unit {0}) E → Story → Story → Type 0
Firms gate result old new = (found : Found) (written : List (List ℕ)) (pending : Option (List ℕ)) → Stands (stood found written pending) gate old →
    Keeps written pending old new
    × OnOk result (IsAt (stood found written pending) gate new × IsDurable new)
