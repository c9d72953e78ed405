-- A word is a number where it is what is written of one.
use Rattle.std.proofs.Common.{◌≡◌, ◌∙◌, ap, sym, refl, ℕ, zero, suc, ◌<◌, ◌≤◌, ◌^◌, List, [], ◌∷◌, length, get_or, Bool, true, false, cond, arith}
use Rattle.std.specs.Prelude.{Some, None, Result, Ok, Err, nat_le, ◌&&◌}
use Rattle.std.specs.Str.{bytes_eq, IsUtf8}
use Rattle.std.specs.Str.Parse.{digits_value, ParsesUnsigned, AllDigits}
use Rattle.std.specs.Fmt.{decimal}
use Rattle.std.proofs.lemmas.Bool.{leb-true, le-leb}
use Rattle.std.proofs.lemmas.Bool.Decides.{nat_tests}
use Rattle.std.proofs.lemmas.Slice.Eq.{bytes_eq-Decides}
use Rattle.std.proofs.lemmas.Fmt.{decimal_is_IsNumeral, decimal_digit, first_decimal, decimal-digits_value, IsAscii-decimal, decimal_injective}
use Rattle.std.proofs.lemmas.Str.{IsUtf8-from_ascii}
use Rattle.std.proofs.lemmas.Str.Parse.{IsNumeralModel, numerals_by_value, tells_digits, parse_plain, digit_from_value}
use Rattle.dm_text.specs.Text.{number_of, begins_number}

own : IsNumeralModel (AllDigits 10) (digits_value 10)
own = numerals_by_value (AllDigits 10) tells_digits

none_unless : (b : Bool) (n : ℕ) → (b ≡ true → ⊥) → cond b (Some n) None ≡ None
none_unless true n h = absurd (h refl)
none_unless false n h = refl

and_true : (a b : Bool) → (a && b) ≡ true → (a ≡ true) × (b ≡ true)
and_true true b e = (refl, e)
and_true false b e = absurd cc

pub number_some : (most : ℕ) (word : List ℕ) (n : ℕ) → n < 2 ^ 64 → n ≤ most → word ≡ decimal n → number_of most word ≡ Some n
unfolding number_of
number_some most word n lt le e =
    let v : digits_value 10 (decimal n) ≡ n = (decimal_is_IsNumeral n lt).1 in
    let same : bytes_eq (decimal n) (decimal n) ≡ true = (bytes_eq-Decides (decimal n) (decimal n)).1 refl in
    rw (e, v, same, le-leb n most le) refl

pub number_none : (most : ℕ) (word : List ℕ) → ((n : ℕ) → n ≤ most → word ≡ decimal n → ⊥) → number_of most word ≡ None
unfolding number_of
number_none most word h =
    none_unless (bytes_eq word (decimal (digits_value 10 word)) && nat_le (digits_value 10 word) most) (digits_value 10 word) (λ e.
    let p = and_true (bytes_eq word (decimal (digits_value 10 word))) (nat_le (digits_value 10 word) most) e in
    h (digits_value 10 word) (leb-true _ _ p.1) ((bytes_eq-Decides word (decimal (digits_value 10 word))).0 p.0))

one_digit : begins_number (decimal 0) ≡ true
one_digit = rw (decimal_digit 0 (omega arith)) refl

begins_digits : (ds : List ℕ) → AllDigits 10 ds → 0 < length ds → 48 < get_or ds 0 0 → begins_number ds ≡ true
begins_digits [] all lt high = absurd (omega arith)
begins_digits (c ∷ cs) all lt high = let d = digit_from_value c all.0 in let h : c ≤ 57 = d.1 in grind (arith, nat_tests)

pub begins_decimal : (n : ℕ) → n < 2 ^ 64 → begins_number (decimal n) ≡ true
begins_decimal zero lt = one_digit
begins_decimal (suc n) lt = let d = decimal_is_IsNumeral (suc n) lt in begins_digits (decimal (suc n)) d.0.1 d.0.0 (first_decimal (suc n) (omega arith) lt)

-- what doesn't begin as a number is none
pub number_begins : (most : ℕ) (word : List ℕ) → most < 2 ^ 64 → begins_number word ≡ false → number_of most word ≡ None
number_begins most word small e = number_none most word (λ n le w. let t : begins_number word ≡ true = rw w (begins_decimal n (omega arith)) in cc)

pub number_utf8 : (most : ℕ) (word : List ℕ) → most < 2 ^ 64 → ¬ (IsUtf8 word) → number_of most word ≡ None
number_utf8 most word small h = number_none most word (λ n le w. h (rw w (IsUtf8-from_ascii (decimal n) (IsAscii-decimal n (omega arith)))))

no_plus : (word : List ℕ) → begins_number word ≡ true → (get_or word 0 0 ≡ 43 → ⊥) × (get_or word 0 0 ≡ 48 → length word ≡ 1)
no_plus [] e = absurd cc
no_plus (c ∷ cs) e = (λ f. grind (arith, nat_tests), λ f. grind (arith, nat_tests))

pub number_parsed : {E : Type 0} (most : ℕ) (word : List ℕ) (n : ℕ) (r : Result ℕ E) → begins_number word ≡ true → ParsesUnsigned 64 10 word r → r ≡ Ok n
    → (word ≡ decimal n) × (n < 2 ^ 64)
number_parsed {E} most word n r b h e =
    let q = no_plus word b in
    let k = parse_plain own 64 word r h q.0 in
    let f : (AllDigits 10 word × (0 < length word) × (digits_value 10 word < 2 ^ 64)) × (n ≡ digits_value 10 word) = rw e at k in
    (sym (decimal-digits_value own word f.0.0 f.0.1 q.1 f.0.2) ∙ ap decimal (sym f.1), omega (arith, f.0.2, f.1))

pub number_unparsed : {E : Type 0} (most : ℕ) (word : List ℕ) (r : Result ℕ E) (x : E) → most < 2 ^ 64 → begins_number word ≡ true → ParsesUnsigned 64 10 word r
    → r ≡ Err x → number_of most word ≡ None
number_unparsed {E} most word r x small b h e =
    let k = parse_plain own 64 word r h (no_plus word b).0 in
    let f : ¬ (AllDigits 10 word × (0 < length word) × (digits_value 10 word < 2 ^ 64)) = rw e at k in
    number_none most word (λ n le w.
    let d = decimal_is_IsNumeral n (omega arith) in
    f (rw w d.0.1, rw w d.0.0, rw (w, d.1) (omega arith)))

pub number_over : (most : ℕ) (word : List ℕ) (n : ℕ) → most < 2 ^ 64 → n < 2 ^ 64 → word ≡ decimal n → most < n → number_of most word ≡ None
number_over most word n small lt e over = number_none most word (λ m le w. let s = decimal_injective m n (omega arith) lt (sym w ∙ e) in omega arith)

chosen : (b : Bool) (m n : ℕ) → cond b (Some m) None ≡ Some n → (b ≡ true) × (m ≡ n)
chosen true m n e = (refl, cc)
chosen false m n e = absurd cc

pub number_is : (most : ℕ) (word : List ℕ) (n : ℕ) → number_of most word ≡ Some n → (word ≡ decimal n) × (n ≤ most)
unfolding number_of
number_is most word n e =
    let v = digits_value 10 word in
    let f = chosen (bytes_eq word (decimal v) && nat_le v most) v n e in
    let p = and_true (bytes_eq word (decimal v)) (nat_le v most) f.0 in
    let w : word ≡ decimal v = (bytes_eq-Decides word (decimal v)).0 p.0 in
    let le : v ≤ most = leb-true _ _ p.1 in
    (w ∙ ap decimal f.1, omega (arith, le, f.1))
