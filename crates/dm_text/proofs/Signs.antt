-- A word is a signed number where it is what is written of one.
use Rattle.std.proofs.Common.{◌≡◌, ◌∙◌, ap, refl, ℕ, zero, suc, ◌<◌, ◌≤◌, ◌-◌, ◌^◌, List, [], ◌∷◌, length, Bool, true, false, cond, arith, w64}
use Rattle.std.specs.Prelude.{Option, Some, None, ℤ, pos, negsuc, FitsSigned, ◌==◌}
use Rattle.std.specs.Str.Parse.{AllDigits}
use Rattle.std.specs.Fmt.{decimal, signed_decimal}
use Rattle.std.proofs.lemmas.Bool.Decides.{nat_tests}
use Rattle.std.proofs.lemmas.Fmt.{decimal_is_IsNumeral}
use Rattle.std.proofs.lemmas.Str.Parse.{digit_from_value}
use Rattle.std.proofs.lemmas.Int.{ints}
use Rattle.dm_text.proofs.Canonical.{number_some, number_is}
use Rattle.dm_text.specs.Text.{number_of, signed_of, negated, unsigned}

-- digits have no sign before them
signed_digits : (word : List ℕ) → AllDigits 10 word → 0 < length word → signed_of word ≡ unsigned (number_of (2 ^ 63 - 1) word)
unfolding signed_of
signed_digits [] all lt = absurd (omega arith)
signed_digits (c ∷ cs) all lt =
    let d = digit_from_value c all.0 in
    let low : 48 ≤ c = d.0 in
    let e : (c == 45) ≡ false = grind (arith, nat_tests) in
    rw e refl

pub signed_some : (z : ℤ) → FitsSigned w64 z → signed_of (signed_decimal z) ≡ Some z
unfolding signed_of
signed_some (pos n) fits =
    let small : n ≤ 2 ^ 63 - 1 = omega (arith, ints) in
    let d = decimal_is_IsNumeral n (omega arith) in
    signed_digits (decimal n) d.0.1 d.0.0 ∙ ap unsigned (number_some (2 ^ 63 - 1) (decimal n) n (omega arith) small refl)
signed_some (negsuc n) fits =
    let small : suc n ≤ 2 ^ 63 = omega (arith, ints) in
    ap negated (number_some (2 ^ 63) (decimal (suc n)) (suc n) (omega arith) small refl)

unsigned_is : (o : Option ℕ) (z : ℤ) → unsigned o ≡ Some z → (n : ℕ) × (o ≡ Some n) × (z ≡ pos n)
unsigned_is None z e = absurd cc
unsigned_is (Some n) z e = (n, refl, cc)

negated_is : (o : Option ℕ) (z : ℤ) → negated o ≡ Some z → (n : ℕ) × (o ≡ Some (suc n)) × (z ≡ negsuc n)
negated_is None z e = absurd cc
negated_is (Some zero) z e = absurd cc
negated_is (Some (suc n)) z e = (n, refl, cc)

same_word : (c d : ℕ) (cs ds : List ℕ) → c ≡ d → cs ≡ ds → c ∷ cs ≡ d ∷ ds
same_word c d cs ds e f = cc

signed_is_cases : (b : Bool) (c : ℕ) (cs : List ℕ) (z : ℤ) → (b ≡ true → c ≡ 45)
    → cond b (negated (number_of (2 ^ 63) cs)) (unsigned (number_of (2 ^ 63 - 1) (c ∷ cs))) ≡ Some z → (c ∷ cs ≡ signed_decimal z) × FitsSigned w64 z
signed_is_cases true c cs z minus e =
    let k = negated_is (number_of (2 ^ 63) cs) z e in
    let n = k.0 in
    let p = number_is (2 ^ 63) cs (suc n) k.1 in
    let small : suc n ≤ 2 ^ 63 = p.1 in
    let m : c ≡ 45 = minus refl in
    let fits : FitsSigned w64 (negsuc n) = omega (arith, ints) in
    rw k.2 (same_word _ _ _ _ m p.0, fits)
signed_is_cases false c cs z minus e =
    let k = unsigned_is (number_of (2 ^ 63 - 1) (c ∷ cs)) z e in
    let n = k.0 in
    let p = number_is (2 ^ 63 - 1) (c ∷ cs) n k.1 in
    let small : n ≤ 2 ^ 63 - 1 = p.1 in
    let fits : FitsSigned w64 (pos n) = omega (arith, ints) in
    rw k.2 (p.0, fits)

minus_is : (c : ℕ) → (c == 45) ≡ true → c ≡ 45
minus_is c e = grind (arith, nat_tests)

pub signed_is : (z : ℤ) (word : List ℕ) → signed_of word ≡ Some z → (word ≡ signed_decimal z) × FitsSigned w64 z
unfolding signed_of
signed_is z [] e = absurd cc
signed_is z (c ∷ cs) e = signed_is_cases (c == 45) c cs z (minus_is c) e
