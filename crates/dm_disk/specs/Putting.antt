-- What a sink takes.
use Rattle.std.specs.Prelude.{◌≡◌, ◌≢◌, ℕ, zero, suc, ◌≤◌, List, [], ◌∷◌, ◌++◌, length, take, Option, Some, None}
use Rattle.dm_disk.specs.declared.outside.Put.{Put}
use Rattle.dm_disk.specs.declared.outside.Put.TheVariants.{Took, Failed}
use Rattle.dm_disk.specs.Faults.{raised}

-- the bytes of a sink with these at their end; a sink that tells nothing goes on telling nothing
abbrev pub appended : Option (List ℕ) → List ℕ → Option (List ℕ)
appended None text = None
appended (Some old) text = Some (old ++ text)

-- the bytes of a sink after it answered to a piece
abbrev pub written_after : Option (List ℕ) → List ℕ → Put → Option (List ℕ)
written_after written piece (Took n) = appended written (take n piece)
written_after written piece Failed = written

-- no more is taken than there is
abbrev pub FitsPiece : List ℕ → Put → Type 0
FitsPiece piece (Took n) = n ≤ length piece
FitsPiece piece Failed = Unit {0}

-- the answer is a fault: a piece that isn't empty, and nothing taken
abbrev pub IsFault : List ℕ → Put → Type 0
IsFault piece (Took n) = (n ≡ 0) × (piece ≢ [])
IsFault piece Failed = Unit {0}

-- a count of faults after an answer that is counted where it is a fault
abbrev pub faults_putting : ℕ → List ℕ → Put → ℕ
faults_putting count piece Failed = raised count
faults_putting count [] (Took n) = count
faults_putting count (byte ∷ bytes) (Took zero) = raised count
faults_putting count (byte ∷ bytes) (Took (suc n)) = count
