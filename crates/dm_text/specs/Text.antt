-- Words and numbers of a text, and what it is to append a text.
use Rattle.std.specs.Prelude.{◌≡◌, ℤ, pos, negsuc, zero, suc, ◌^◌, ◌-◌, ℕ, List, [], ◌∷◌, ◌++◌, length, Option, Some, None, Bool, false, ◌==◌, ◌||◌, ◌&&◌}
use Rattle.std.specs.Prelude.{nat_lt, nat_le, filter, if◌then◌else◌, Result, Ok, Err}
use Rattle.std.specs.List.{slice_split}
use Rattle.std.specs.Str.{bytes_eq}
use Rattle.std.specs.Str.Parse.{digits_value}
use Rattle.std.specs.Fmt.{decimal}

-- a space or a tab
abbrev pub is_blank : ℕ → Bool
is_blank b = (b == 32) || (b == 9)

-- the words of a line: its runs of bytes other than space and tab
abbrev pub words_of : List ℕ → List (List ℕ)
words_of line = filter (λ word. nat_lt 0 (length word)) (slice_split is_blank line)

-- a part of a line before further words: a word, unless it is empty
abbrev pub with_first : List ℕ → List (List ℕ) → List (List ℕ)
with_first part others = if nat_lt 0 (length part) then part ∷ others else others

-- `0` alone, or a first digit 1 to 9
abbrev pub begins_number : List ℕ → Bool
begins_number [] = false
begins_number (c ∷ cs) = if c == 48 then length cs == 0 else (nat_le 49 c && nat_le c 57)

-- the number up to most of which the word is the canonical text: the word is what is written of its value
unfoldable pub number_of : ℕ → List ℕ → Option ℕ
number_of most word = let n = digits_value 10 word in if bytes_eq word (decimal n) && nat_le n most then Some n else None

-- the number below 0 of which this is the size
abbrev pub negated : Option ℕ → Option ℤ
negated None = None
negated (Some zero) = None
negated (Some (suc n)) = Some (negsuc n)

abbrev pub unsigned : Option ℕ → Option ℤ
unsigned None = None
unsigned (Some n) = Some (pos n)

-- the number in 64 bits with a sign of which the word is the canonical text
unfoldable pub signed_of : List ℕ → Option ℤ
signed_of [] = None
signed_of (c ∷ cs) = if c == 45 then negated (number_of (2 ^ 63) cs) else unsigned (number_of (2 ^ 63 - 1) (c ∷ cs))

-- the text is the front and something after it
pub record Begins (text front : List ℕ) : Type 0 where
  pub rest : List ℕ
  pub whole : text ≡ front ++ rest

-- a buffer has grown by a text; where memory ran out it still begins with what it held
abbrev pub Appends : {T E : Type 0} → Result T E → List ℕ → List ℕ → List ℕ → Type 0
Appends (Ok done) old new text = new ≡ old ++ text
Appends (Err error) old new text = Begins new old
