-- Sums over the first numbers of a range, and what holds of each key of a list.
use Rattle.std.proofs.Common.{ℕ, zero, suc, ◌+◌, ◌-◌, ◌<◌, ◌≤◌, ◌≡◌, ◌==◌, true, List, [], ◌∷◌, length, ap, subst, arith, inl, inr, get_or}
use Rattle.std.proofs.lemmas.Bool.{eqb-true, false≢true, or_cases}
use Rattle.std.proofs.lemmas.List.Sums.{sum_by-cons}
use Rattle.std.specs.List.{range_with_len, sum_by}
use Rattle.dm_model.specs.Tests.{is_among}

-- one number more
pub sum_more : (f : ℕ → ℕ) (a n : ℕ) → sum_by f (range_with_len a (suc n)) ≡ sum_by f (range_with_len a n) + f (a + n)
sum_more f a zero =
    let one = sum_by-cons f a [] in
    let here : a + 0 ≡ a = omega arith in
    let at : f (a + 0) ≡ f a = ap f here in
    omega (arith, one, at)
sum_more f a (suc n) =
    let p = sum_by-cons f a (range_with_len (a + 1) (suc n)) in
    let q = sum_by-cons f a (range_with_len (a + 1) n) in
    let r = sum_more f (a + 1) n in
    let here : a + 1 + n ≡ a + suc n = omega arith in
    let at : f (a + 1 + n) ≡ f (a + suc n) = ap f here in
    omega (arith, p, q, r, at)

-- what holds of each element holds of each that is among them
pub among_all : (P : ℕ → Type 0) (xs : List ℕ) → ((j : ℕ) → j < length xs → P (get_or xs j 0)) → (key : ℕ) → is_among xs key ≡ true → P key
among_all P [] h key m = absurd (false≢true m)
among_all P (x ∷ xs) h key m = elim (or_cases (x == key) (is_among xs key) m) [
  | inl e ↦ subst P (eqb-true x key e) (h zero (omega arith))
  | inr n ↦ among_all P xs (λ j l. h (suc j) (omega (arith, l))) key n
]

-- a sum to which one term is added in turn
pub sum_to : (f : ℕ → ℕ) (i count term : ℕ) → 1 ≤ i → count ≡ sum_by f (range_with_len 1 (i - 1)) → term ≡ f i
    → count + term ≡ sum_by f (range_with_len 1 (i + 1 - 1))
sum_to f i count term from e g =
    let more = sum_more f 1 (i - 1) in
    let here : 1 + (i - 1) ≡ i = omega (arith, from) in
    let at : f (1 + (i - 1)) ≡ f i = ap f here in
    let next : i + 1 - 1 ≡ suc (i - 1) = omega (arith, from) in
    let long : sum_by f (range_with_len 1 (i + 1 - 1)) ≡ sum_by f (range_with_len 1 (suc (i - 1))) = ap (λ (n : ℕ). sum_by f (range_with_len 1 n)) next in
    omega (arith, e, g, more, at, long)
