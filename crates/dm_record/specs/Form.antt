-- Byte by byte, what may stand where: the words of a form, each with what it means.
use Rattle.std.specs.Prelude.{◌≡◌, ℕ, zero, suc, ◌+◌, ◌*◌, ◌<◌, Bool, true, nat_lt, nat_le, ◌&&◌, if◌then◌else◌, List, [], ◌∷◌, length, slice_index}
use Rattle.dm_record.specs.declared.record.Record.{Record}
use Rattle.dm_record.specs.declared.record.Decoded.{Decoded}
use Rattle.dm_record.specs.declared.record.Decoded.TheVariants as decoded

-- the end of a word of this record; or a byte that passes a test, and what follows that byte
pub data Form : Type 0 where
  done : Record → Form
  byte : (ℕ → Bool) → (ℕ → Form) → Form

-- the word of a record
unfoldable pub IsWord : Form → List ℕ → Record → Type 0
IsWord (done r) [] rec = rec ≡ r
IsWord (done r) (b ∷ word) rec = ⊥
IsWord (byte test next) [] rec = ⊥
IsWord (byte test next) (b ∷ word) rec = (b < 256) × (test b ≡ true) × IsWord (next b) word rec

-- 256 to that power
abbrev pub span : ℕ → ℕ
span zero = 1
span (suc k) = span k * 256

-- some number from low to high begins with this one and has so many bytes more
abbrev pub is_alive : ℕ → ℕ → ℕ → ℕ → Bool
is_alive low high so_far width = nat_lt low (so_far * span width + span width) && nat_le (so_far * span width) high

-- a number from low to high that has so many bytes more
unfoldable pub number : ℕ → ℕ → ℕ → ℕ → (ℕ → Form) → Form
number low high so_far zero next = next so_far
number low high so_far (suc width) next = byte (λ b. is_alive low high (so_far * 256 + b) width) (λ b. number low high (so_far * 256 + b) width next)

-- Reads on from a place.
unfoldable pub walk : Form → List ℕ → ℕ → Decoded
walk (done r) bytes at = decoded.Whole r at
walk (byte test next) bytes at =
    if nat_lt at (length bytes) then (if test (slice_index bytes at) then walk (next (slice_index bytes at)) bytes (at + 1) else decoded.Bad at)
    else decoded.Short
