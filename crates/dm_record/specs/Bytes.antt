-- The frame of each record.
use Rattle.std.specs.Prelude.{◌≡◌, ℕ, zero, suc, ◌+◌, ◌/◌, ◌%◌, ◌^◌, ◌<◌, ◌≤◌, List, [], ◌∷◌, ◌++◌, length, FitsSigned}
use Rattle.std.specs.Int.{cast_unsigned, w64}
use Rattle.dm_event.specs.declared.limits.TheConstants.{MAX_SESSIONS, MAX_SITES, MAX_KEYS, MAX_PARTS}
use Rattle.dm_event.specs.declared.step.Pair.{Pair}
use Rattle.dm_record.specs.declared.record.TheConstants.{MAX_KEY}
use Rattle.dm_record.specs.declared.record.Record.{Record}
use Rattle.dm_record.specs.declared.record.Record.TheVariants.{Commit, Release, Grant}
use Rattle.dm_record.specs.Form.{span}

-- the number in so many bytes, the greatest of them first
abbrev pub digits : ℕ → ℕ → List ℕ
digits zero n = []
digits (suc width) n = n / span width ∷ digits width (n % span width)

abbrev pub components : List ℕ → List ℕ
components [] = []
components (x ∷ vector) = digits 8 x ++ components vector

-- values in two's complement
abbrev pub pairs : List Pair → List ℕ
pairs [] = []
pairs (pair ∷ more) = digits 4 pair.key ++ (digits 8 (cast_unsigned w64 pair.value) ++ pairs more)

-- what stands behind the length
abbrev pub body : Record → List ℕ
body (Commit txn seq begin writes) =
    1 ∷ (digits 4 txn.session ++ (digits 4 txn.number ++ (digits 8 txn.attempt ++ (digits 8 seq
    ++ (length begin ∷ (components begin ++ (length writes ∷ pairs writes)))))))
body (Release part epoch to vector) = 2 ∷ (digits 2 part ++ (digits 8 epoch ++ (to ∷ (length vector ∷ components vector))))
body (Grant part epoch vector) = 3 ∷ (digits 2 part ++ (digits 8 epoch ++ (length vector ∷ components vector)))

abbrev pub frame_of : Record → List ℕ
frame_of rec = digits 4 (length (body rec)) ++ body rec

-- both ends count
abbrev pub IsFrom : ℕ → ℕ → ℕ → Type 0
IsFrom least most n = (least ≤ n) × (n ≤ most)

-- each component fits eight bytes
abbrev pub AreComponents : List ℕ → Type 0
AreComponents [] = Unit {0}
AreComponents (x ∷ vector) = (x < 2 ^ 64) × AreComponents vector

-- keys of schemas, each above the one before and the first of them at least this
abbrev pub AreKeys : ℕ → List Pair → Type 0
AreKeys least [] = Unit {0}
AreKeys least (pair ∷ more) = IsFrom least MAX_KEY pair.key × AreKeys (pair.key + 1) more

-- each value fits eight bytes
abbrev pub AreValues : List Pair → Type 0
AreValues [] = Unit {0}
AreValues (pair ∷ more) = FitsSigned w64 pair.value × AreValues more

-- the limits of the numbers of a record that their types don't give
abbrev pub IsInRange : Record → Type 0
IsInRange (Commit txn seq begin writes) =
    IsFrom 1 MAX_SESSIONS txn.session × (1 ≤ txn.number) × (1 ≤ txn.attempt) × (1 ≤ seq)
    × IsFrom 1 MAX_SITES (length begin) × IsFrom 1 MAX_KEYS (length writes) × AreKeys 0 writes
IsInRange (Release part epoch to vector) = (part < MAX_PARTS) × IsFrom 1 MAX_SITES to × IsFrom 1 MAX_SITES (length vector)
IsInRange (Grant part epoch vector) = (part < MAX_PARTS) × IsFrom 1 MAX_SITES (length vector)

-- the other numbers of a record fit their types, and so their bytes
abbrev pub FitsTypes : Record → Type 0
FitsTypes (Commit txn seq begin writes) = (txn.number < 2 ^ 32) × (txn.attempt < 2 ^ 64) × (seq < 2 ^ 64) × AreComponents begin × AreValues writes
FitsTypes (Release part epoch to vector) = (epoch < 2 ^ 64) × AreComponents vector
FitsTypes (Grant part epoch vector) = (epoch < 2 ^ 64) × AreComponents vector

-- the ranges of the numbers of a record
abbrev pub HasRanges : Record → Type 0
HasRanges rec = IsInRange rec × FitsTypes rec

-- the frame of a record
abbrev pub IsFrame : List ℕ → Record → Type 0
IsFrame word rec = HasRanges rec × (word ≡ frame_of rec)

-- the bytes begin some frame
abbrev pub BeginsFrame : List ℕ → Type 0
BeginsFrame bytes = (rest : List ℕ) × (rec : Record) × IsFrame (bytes ++ rest) rec
