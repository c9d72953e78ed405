-- What a word says: an attempt, keys, pairs, ops, a byte; and what the words of a vector say.
use Rattle.std.specs.Prelude.{ℕ, ◌+◌, ◌-◌, ◌^◌, List, [], ◌∷◌, ◌++◌, length, slice_index, take, drop, Option, Some, None, Result, Ok, Err, Bool, false, ◌==◌, if◌then◌else◌, codes}
use Rattle.std.specs.Str.{bytes_eq}
use Rattle.dm_event.specs.Layout.{Layout}
use Rattle.dm_event.specs.declared.step.Choice.{Choice}
use Rattle.dm_event.specs.declared.step.Choice.TheVariants.{Master, Best, Reader, Hand}
use Rattle.dm_event.specs.declared.step.Found.{Found}
use Rattle.dm_event.specs.declared.step.Found.TheVariants.{Clean, Kept, Lost}
use Rattle.dm_event.specs.declared.step.Op.{Op}
use Rattle.dm_event.specs.declared.step.Op.TheVariants as ops
use Rattle.dm_event.specs.declared.step.Pair.{Pair}
use Rattle.dm_event.specs.declared.step.TxnId.{TxnId}
use Rattle.dm_event.specs.declared.why.LineFault.{LineFault}
use Rattle.dm_event.specs.declared.why.LineFault.TheVariants.{Number}
use Rattle.dm_text.specs.Text.{signed_of}
use Rattle.dm_fields.specs.Fields.{Words, ◌>>=◌, made, or_fault, canonical, word_at, unknown_at}
use Rattle.dm_kinds.specs.Marks.{pieces_of, cut_at}

-- `SESSION.NUMBER.ATTEMPT`
unfoldable pub txn_of : List ℕ → Result TxnId LineFault
txn_of word = do
  behind ← or_fault Number (cut_at 46 word)
  last ← or_fault Number (cut_at 46 behind.1)
  session ← canonical (2 ^ 32 - 1) behind.0
  number ← canonical (2 ^ 32 - 1) last.0
  attempt ← canonical (2 ^ 64 - 1) last.1
  Ok (record { session = session; number = number; attempt = attempt })

unfoldable pub key_of : List ℕ → Result ℕ LineFault
key_of word = canonical (2 ^ 32 - 1) word

-- `KEY:VALUE`
unfoldable pub pair_of : List ℕ → Result Pair LineFault
pair_of word = do
  parts ← or_fault Number (cut_at 58 word)
  key ← key_of parts.0
  value ← or_fault Number (signed_of parts.1)
  Ok (record { key = key; value = value })

-- `gKEY`, `pKEY:VALUE`, `aKEY:VALUE`
unfoldable pub op_of : List ℕ → Result Op LineFault
op_of [] = Err Number
op_of (c ∷ rest) =
    if c == 103 then made (λ key. ops.Read key) (key_of rest)
    else (if c == 112 then made (λ pair. ops.Write pair.key pair.value) (pair_of rest)
    else (if c == 97 then made (λ pair. ops.Add pair.key pair.value) (pair_of rest)
    else Err Number))

-- the items of the words, after those so far
unfoldable pub items_from : {A : Type 0} → (List ℕ → Result A LineFault) → List A → Words → Result (List A) LineFault
items_from item so_far [] = Ok so_far
items_from item so_far (w ∷ ws) = item w >>= λ x. items_from item (so_far ++ x ∷ []) ws

-- items with a comma between each two, or `-` for none
unfoldable pub list_of : {A : Type 0} → (List ℕ → Result A LineFault) → List ℕ → Result (List A) LineFault
list_of item word = if bytes_eq word (codes "-") then Ok [] else items_from item [] (pieces_of 44 word)

-- a byte, or `-` past an end
unfoldable pub byte_of : List ℕ → Result (Option ℕ) LineFault
byte_of word = if bytes_eq word (codes "-") then Ok None else made (λ byte. Some byte) (canonical (2 ^ 8 - 1) word)

-- ---- vectors

abbrev pub opens : List ℕ → Bool
opens [] = false
opens (c ∷ word) = c == 91

abbrev pub closes : List ℕ → Bool
closes word = slice_index word (length word - 1) == 93

-- how many words there are up to the first that ends with `]`, or at all
abbrev pub closed_in : Words → ℕ
closed_in [] = 0
closed_in (w ∷ ws) = if closes w then 1 else closed_in ws + 1

-- the place behind the vector that begins at the place n. One that is opened goes on to the first word that closes it, or to the end of the line
unfoldable pub vector_end : Words → ℕ → ℕ
vector_end ws n = if opens (word_at ws n) then n + closed_in (drop n ws) else n + 1

-- a number before the bracket that closes the vector
abbrev pub last_number : List ℕ → Result ℕ LineFault
last_number word = if closes word then canonical (2 ^ 64 - 1) (take (length word - 1) word) else Err Number

-- the numbers of these words, the last one before a bracket, after those so far
unfoldable pub closed_numbers : List ℕ → List ℕ → Words → Result (List ℕ) LineFault
closed_numbers so_far w [] = made (λ n. so_far ++ n ∷ []) (last_number w)
closed_numbers so_far w (next ∷ ws) = canonical (2 ^ 64 - 1) w >>= λ n. closed_numbers (so_far ++ n ∷ []) next ws

-- the numbers of a vector's words
unfoldable pub numbers_of : Words → Result (List ℕ) LineFault
numbers_of [] = Err Number
numbers_of (w ∷ ws) = if opens w then closed_numbers [] (drop 1 w) ws else Err Number

-- a vector that has a number for each site
unfoldable pub sized : Layout → List ℕ → Option (List ℕ)
sized layout numbers = if length numbers == layout.sites then Some numbers else None

-- the vector at a place, where its length is that of the layout
unfoldable pub vector_at : Layout → Words → ℕ → Result (Option (List ℕ)) LineFault
vector_at layout ws n = made (sized layout) (numbers_of (take (vector_end ws n - n) (drop n ws)))

-- ---- the words of choices

unfoldable pub choice_at : Words → ℕ → Result Choice LineFault
choice_at ws n =
    if bytes_eq (word_at ws n) (codes "master") then Ok Master
    else (if bytes_eq (word_at ws n) (codes "best") then Ok Best
    else (if bytes_eq (word_at ws n) (codes "reader") then Ok Reader
    else (if bytes_eq (word_at ws n) (codes "hand") then Ok Hand
    else Err (unknown_at ws n))))

unfoldable pub found_at : Words → ℕ → Result Found LineFault
found_at ws n =
    if bytes_eq (word_at ws n) (codes "clean") then Ok Clean
    else (if bytes_eq (word_at ws n) (codes "kept") then Ok Kept
    else (if bytes_eq (word_at ws n) (codes "lost") then Ok Lost
    else Err (unknown_at ws n)))
