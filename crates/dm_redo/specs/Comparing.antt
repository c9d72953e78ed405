-- A file against what was written.
use Rattle.std.specs.Prelude.{◌≡◌, ℕ, suc, Bool, false, ◌&&◌, ◌==◌, if◌then◌else◌, List, [], ◌∷◌, ◌++◌, length, drop, slice_get, Option, Some, None, Result, Ok, Err, IfSome}
use Rattle.dm_event.specs.declared.step.Found.{Found}
use Rattle.dm_event.specs.declared.step.Found.TheVariants as found
use Rattle.dm_logdisk.specs.Story.{Story, bytes_of}
use Rattle.dm_record.specs.Frames.{IsSomeFrame}
use Rattle.dm_redo.specs.Holding.{framed}
use Rattle.dm_redo.specs.declared.comparing.AgainstFault.{AgainstFault}
use Rattle.dm_redo.specs.declared.comparing.AgainstFault.TheVariants as fault

-- how many bytes at the front of both are the same
abbrev pub common : List ℕ → List ℕ → ℕ
common [] file = 0
common (x ∷ expected) [] = 0
common (x ∷ expected) (y ∷ file) = if x == y then suc (common expected file) else 0

abbrev pub begins : List ℕ → List ℕ → Bool
begins expected file = common expected file == length expected

-- an open gate stands at the front: a 1 that isn't the file's last byte
abbrev pub is_open : List ℕ → Bool
is_open [] = false
is_open (gate ∷ []) = false
is_open (gate ∷ next ∷ rest) = gate == 1

-- the expected bytes stand in the file and then the log ends, or the least place where they part
abbrev pub judged : List ℕ → Found → List ℕ → Result Found AgainstFault
judged expected found file =
    if begins expected file then
    (if is_open (drop (length expected) file) then Err (fault.Differs (length expected) (Some 1) None) else Ok found)
    else Err (fault.Differs (common expected file) (slice_get file (common expected file)) (slice_get expected (common expected file)))

-- Where the file goes on with an open gate behind what was written, the pending frame is expected there too.
abbrev pub compared : List ℕ → Option (List ℕ) → List ℕ → Result Found AgainstFault
compared written None file = judged written found.Clean file
compared written (Some frame) file =
    if begins written file && is_open (drop (length written) file) then judged (written ++ 1 ∷ frame) found.Kept file else judged written found.Lost file

-- The answer is this one, unless the disk failed or there was no memory.
abbrev pub Says : Result Found AgainstFault → Result Found AgainstFault → Type 0
Says (Ok found) due = due ≡ Ok found
Says (Err (fault.Differs place read written)) due = due ≡ Err (fault.Differs place read written)
Says (Err fault.Log) due = Unit {0}
Says (Err fault.Memory) due = Unit {0}

-- it is the answer for what the disk reads, where it tells
abbrev pub Shows : List (List ℕ) → Option (List ℕ) → Result Found AgainstFault → Option Story → Type 0
Shows written pending answer story = IfSome story (λ s. Says answer (compared (framed written) pending (bytes_of s)))

-- the frames that stand in the file where it agrees
abbrev pub stood : Found → List (List ℕ) → Option (List ℕ) → List (List ℕ)
stood found.Kept written (Some frame) = written ++ frame ∷ []
stood found.Kept written None = written
stood found.Clean written pending = written
stood found.Lost written pending = written

-- each of them is the frame of a record
abbrev pub AreFrames : List (List ℕ) → Type 0
AreFrames [] = Unit {0}
AreFrames (frame ∷ frames) = IsSomeFrame frame × AreFrames frames

-- the byte that is expected at the place, where the file is to have this
abbrev pub IsExpectedAt : List (List ℕ) → Option (List ℕ) → ℕ → Option ℕ → Type 0
IsExpectedAt written pending place byte = (found : Found) × (byte ≡ slice_get (framed (stood found written pending)) place)

-- where bytes differ, the one that was written is the expected one
abbrev pub TellsExpected : List (List ℕ) → Option (List ℕ) → AgainstFault → Type 0
TellsExpected written pending e = (place : ℕ) (read due : Option ℕ) → e ≡ fault.Differs place read due → IsExpectedAt written pending place due
