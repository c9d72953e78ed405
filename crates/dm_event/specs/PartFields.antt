-- A set of partitions is the bits of four words, and is seen as the ascending list of its partitions.
use Rattle.std.specs.Int.{bit_at}
use Rattle.std.specs.List.{list_any, range_with_len}
use Rattle.std.specs.Prelude.{ℕ, zero, suc, ◌+◌, ◌*◌, ◌/◌, ◌%◌, ◌≡◌, Bool, ◌==◌, if◌then◌else◌, List, map, filter, slice_index}
use Rattle.std.proofs.Common.{ap, sym}
use Rattle.dm_event.specs.declared.limits.TheConstants.{MAX_PARTS}
use Rattle.dm_event.specs.declared.part_set.PartSet.TheInside.{Inside}

-- the partition's bit is set in its word
abbrev pub has_bit : List ℕ → ℕ → Bool
has_bit words part = bit_at (slice_index words (part / 64)) (part % 64) == 1

-- the partitions whose bits are set
unfoldable pub bits_set : List ℕ → List ℕ
bits_set words = filter (has_bit words) (range_with_len 0 MAX_PARTS)

-- the number of these n bits, the lowest first
abbrev pub number_by : (ℕ → Bool) → ℕ → ℕ
number_by bit zero = 0
number_by bit (suc n) = (if bit 0 then 1 else 0) + 2 * number_by (λ b. bit (suc b)) n

-- the four words with the partitions' bits
unfoldable pub words_by : List ℕ → List ℕ
words_by parts = map (λ k. number_by (λ b. list_any (λ part. part == 64 * k + b) parts) 64) (range_with_len 0 4)

abbrev pub parts_of : Inside → List ℕ
parts_of s = bits_set s.words

abbrev pub set_of : List ℕ → Inside
set_of parts = record { words = words_by parts }

-- the words have no other bits
abbrev pub HasBits : Inside → Type 0
HasBits s = s.words ≡ words_by (bits_set s.words)

pub set_of-parts : (s : Inside) → HasBits s → set_of (parts_of s) ≡ s
set_of-parts s h = ap (λ (words : List ℕ). record { words = words }) (sym h)
