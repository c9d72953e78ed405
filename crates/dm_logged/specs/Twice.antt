-- What a caller of a log says of its own call.
use Rattle.std.specs.Prelude.{◌⊎◌, ℕ, List, [], ◌∷◌}
use Rattle.dm_logdisk.specs.Story.{Story, LeavesOnly}
use Rattle.dm_record.specs.declared.record.Record.{Record}
use Rattle.dm_redo.specs.Holding.{Holds, IsAt, IsFirm}
use Rattle.dm_redo.specs.Finding.{frames_of}

-- the log stands at these records, with nothing of them pending
pub record IsSettled (recs : List Record) (gate : ℕ) (s : Story) : Type 0 where
  pub at : IsAt (frames_of recs) gate s
  pub firm : IsFirm (frames_of recs) s

-- the file holds one of these lists of records
abbrev pub HoldsOneOf : List (List Record) → List ℕ → Type 0
HoldsOneOf [] bytes = ⊥
HoldsOneOf (recs ∷ more) bytes = Holds (frames_of recs) bytes ⊎ HoldsOneOf more bytes

-- where the log stood at the records, a crash at any moment of the call leaves one of these lists of them
abbrev pub LeavesOneOf : List (List Record) → List Record → ℕ → Story → Story → Type 0
LeavesOneOf lists recs gate old new = IsSettled recs gate old → LeavesOnly (HoldsOneOf lists) old new

-- where the log stood at the one list of records, it stands at the other
abbrev pub Settles : List Record → ℕ → List Record → ℕ → Story → Story → Type 0
Settles recs gate others then_gate old new = IsSettled recs gate old → IsSettled others then_gate new
