-- What a reader says of bytes.
use Rattle.std.specs.Prelude.{ℕ, suc, ◌<◌, ◌≤◌, List, ◌∷◌, ◌++◌, length, take}
use Rattle.dm_record.specs.declared.record.Record.{Record}
use Rattle.dm_record.specs.declared.record.Decoded.{Decoded}
use Rattle.dm_record.specs.declared.record.Decoded.TheVariants as decoded
use Rattle.dm_record.specs.Bytes.{IsFrame, BeginsFrame}

-- no front of the bytes is a frame
abbrev pub NoFrame : List ℕ → Type 0
NoFrame bytes = (n : ℕ) → (rec : Record) → IsFrame (take n bytes) rec → ⊥

-- So many bytes are a frame of the record; or the bytes are a proper front of a frame; or so many of them, and no more, begin a frame.
abbrev pub Tells : List ℕ → Decoded → Type 0
Tells bytes (decoded.Whole rec used) = (used ≤ length bytes) × IsFrame (take used bytes) rec
Tells bytes decoded.Short = NoFrame bytes × ((next : ℕ) × (rest : List ℕ) × (rec : Record) × IsFrame (bytes ++ next ∷ rest) rec)
Tells bytes (decoded.Bad place) = NoFrame bytes × (place < length bytes) × BeginsFrame (take place bytes) × (BeginsFrame (take (suc place) bytes) → ⊥)
