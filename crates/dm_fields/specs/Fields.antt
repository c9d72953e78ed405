-- The parts of a line, each with the fault of a line that lacks it.
use Rattle.std.specs.Prelude.{◌≡◌, ℕ, ℤ, ◌-◌, ◌^◌, List, [], ◌∷◌, ◌++◌, length, Option, Some, None, Result, Ok, Err, Bool, true, false, nat_le, ◌||◌, map, if◌then◌else◌}
use Rattle.std.specs.Prelude.{slice_index_or}
use Rattle.std.specs.Borrow.{Bor}
use Rattle.std.specs.Str.{bytes_eq}
use Rattle.dm_event.specs.Layout.{is_between}
use Rattle.dm_event.specs.declared.why.LineFault.{LineFault}
use Rattle.dm_event.specs.declared.why.LineFault.TheVariants.{Word, Count, Number}
use Rattle.dm_text.specs.Text.{number_of, signed_of}
use Rattle.dm_fields.specs.declared.fault.LineError.{LineError}
use Rattle.dm_fields.specs.declared.fault.LineError.TheVariants as errors

-- one part after the other, up to the first that is at fault
infixl 10 ◌>>=◌
abbrev pub ◌>>=◌ : {A B : Type 0} → Result A LineFault → (A → Result B LineFault) → Result B LineFault
(Ok x) >>= f = f x
(Err fault) >>= f = Err fault

-- what is made of a part
abbrev pub made : {A B : Type 0} → (A → B) → Result A LineFault → Result B LineFault
made f (Ok x) = Ok (f x)
made f (Err fault) = Err fault

-- a fault unless a test passes
abbrev pub check : LineFault → Bool → Result (Unit {0}) LineFault
check fault true = Ok tt
check fault false = Err fault

-- a value, or a fault where there is none
abbrev pub or_fault : {A : Type 0} → LineFault → Option A → Result A LineFault
or_fault fault (Some x) = Ok x
or_fault fault None = Err fault

-- the words of a line
abbrev pub Words : Type 0
Words = List (List ℕ)

-- the words that a program holds, as their bytes
abbrev pub spelled : List (Bor (List ℕ)) → Words
spelled words = map (λ w. w.now) words

-- the word at a place, counted from 0, or no bytes where the line has no such word
unfoldable pub word_at : Words → ℕ → List ℕ
word_at ws n = slice_index_or ws n []

-- the word at a place, where there is one, is this word
unfoldable pub fixed_word : Words → ℕ → List ℕ → Result (Unit {0}) LineFault
fixed_word ws n text = check Word (nat_le (length ws) n || bytes_eq (word_at ws n) text)

-- what is wrong with a place at which one of some fixed words should stand, and none of them does
unfoldable pub unknown_at : Words → ℕ → LineFault
unknown_at ws n = if nat_le (length ws) n then Count else Word

-- the line has from `least` to `most` words
unfoldable pub word_count : Words → ℕ → ℕ → Result (Unit {0}) LineFault
word_count ws least most = check Count (is_between least most (length ws))

-- the number up to `most` of which the word is the canonical text
abbrev pub canonical : ℕ → List ℕ → Result ℕ LineFault
canonical most word = or_fault Number (number_of most word)

-- the number of a type at a place

unfoldable pub u8_at : Words → ℕ → Result ℕ LineFault
u8_at ws n = canonical (2 ^ 8 - 1) (word_at ws n)

unfoldable pub u16_at : Words → ℕ → Result ℕ LineFault
u16_at ws n = canonical (2 ^ 16 - 1) (word_at ws n)

unfoldable pub u32_at : Words → ℕ → Result ℕ LineFault
u32_at ws n = canonical (2 ^ 32 - 1) (word_at ws n)

unfoldable pub u64_at : Words → ℕ → Result ℕ LineFault
u64_at ws n = canonical (2 ^ 64 - 1) (word_at ws n)

unfoldable pub i64_at : Words → ℕ → Result ℤ LineFault
i64_at ws n = or_fault Number (signed_of (word_at ws n))

-- What a function answered, seen by view, is what is read, unless memory ran out.

abbrev pub Fails : {Y : Type 0} → LineError → Result Y LineFault → Type 0
Fails errors.Memory read = Unit {0}
Fails (errors.Fault fault) read = read ≡ Err fault

abbrev pub Gives : {X Y : Type 0} → (X → Y) → Result X LineError → Result Y LineFault → Type 0
Gives view (Ok x) read = read ≡ Ok (view x)
Gives view (Err e) read = Fails e read
