-- Where the log in a file ends.
use Rattle.std.specs.Prelude.{◌≡◌, ◌⊎◌, ℕ, ◌≤◌, List, [], ◌∷◌, ◌++◌, length, drop, map}
use Rattle.dm_record.specs.declared.record.Record.{Record}
use Rattle.dm_record.specs.Bytes.{frame_of, HasRanges}
use Rattle.dm_record.specs.Judging.{NoFrame}
use Rattle.dm_logdisk.specs.Story.{Story, bytes_of, IsDurable, LeavesOnly}
use Rattle.dm_redo.specs.Holding.{framed, IsEnd, Holds, IsAt}

-- each record has its ranges
abbrev pub AreRecords : List Record → Type 0
AreRecords [] = Unit {0}
AreRecords (rec ∷ recs) = HasRanges rec × AreRecords recs

abbrev pub frames_of : List Record → List (List ℕ)
frames_of recs = map frame_of recs

-- the frames of these records stand in the bytes, up to that place
pub record Finds (bytes : List ℕ) (gate : ℕ) (recs : List Record) : Type 0 where
  pub are : AreRecords recs
  pub split : bytes ≡ framed (frames_of recs) ++ drop gate bytes
  pub place : gate ≡ length (framed (frames_of recs))
  pub within : gate ≤ length bytes

-- an open gate, and no frame behind it
abbrev pub IsBad : List ℕ → Type 0
IsBad [] = ⊥
IsBad (gate ∷ []) = ⊥
IsBad (gate ∷ next ∷ rest) = (gate ≡ 1) × NoFrame (next ∷ rest)

-- behind the frames of some records stands an open gate, and no frame behind it
abbrev pub IsBadAt : List ℕ → ℕ → Type 0
IsBadAt bytes place = (recs : List Record) × Finds bytes place recs × IsBad (drop place bytes)

abbrev pub IsGood : List ℕ → Type 0
IsGood bytes = (place : ℕ) → IsBadAt bytes place → ⊥

-- the file has these records, and then the log ends
abbrev pub Has : List ℕ → ℕ → List Record → Type 0
Has bytes gate recs = Finds bytes gate recs × IsEnd (drop gate bytes)

-- where nothing is pending, a crash at any moment from the one to the other leaves the records that the file has
abbrev pub KeepsRecords : Story → Story → Type 0
KeepsRecords old new = (gate : ℕ) (recs : List Record) → Has (bytes_of old) gate recs → IsDurable old → LeavesOnly (Holds (frames_of recs)) old new

-- The file has these records. The disk reads as they and one closed gate; where nothing was pending, nothing is.
pub record Loads (gate : ℕ) (recs : List Record) (old new : Story) : Type 0 where
  pub has : Has (bytes_of old) gate recs
  pub good : IsGood (bytes_of old)
  pub at : IsAt (frames_of recs) gate new
  pub crash : KeepsRecords old new
  pub durable : IsDurable old → IsDurable new

-- the log ends there, well or badly
abbrev pub Halts : List ℕ → Type 0
Halts rest = IsEnd rest ⊎ IsBad rest

-- what is found in a file is one thing
abbrev pub IsOneLog : Type 0
IsOneLog = (bytes : List ℕ) (g h : ℕ) (recs others : List Record) →
    Finds bytes g recs → Halts (drop g bytes) → Finds bytes h others → Halts (drop h bytes) → (recs ≡ others) × (g ≡ h)

abbrev pub IsEitherEnd : Type 0
IsEitherEnd = (rest : List ℕ) → IsEnd rest → IsBad rest → ⊥
