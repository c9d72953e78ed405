-- Sums over ranges: of which one term changes, of two parts, and of one number.
use Rattle.std.proofs.Common.{ℕ, zero, suc, ◌+◌, ◌*◌, ◌<◌, ◌≤◌, ◌≡◌, ◌≢◌, List, [], ◌∷◌, refl, ap, ap₂, sym, ◌∙◌, arith, inl, inr}
use Rattle.std.proofs.Math.Nat.{suc-mul}
use Rattle.std.proofs.lemmas.Bool.{cases_eq}
use Rattle.std.proofs.lemmas.List.Sums.{sum_by-cons}
use Rattle.std.specs.List.{range_with_len, sum_by}

-- the terms are the same
pub same_sum : (f g : ℕ → ℕ) (xs : List ℕ) → ((k : ℕ) → g k ≡ f k) → sum_by g xs ≡ sum_by f xs
same_sum f g [] h = refl
same_sum f g (x ∷ xs) h = sum_by-cons g x xs ∙ ap₂ (λ (a b : ℕ). a + b) (h x) (same_sum f g xs h) ∙ sym (sum_by-cons f x xs)

-- all terms are the same
pub flat_sum : (n a m : ℕ) → sum_by (λ k. n) (range_with_len a m) ≡ m * n
flat_sum n a zero = omega arith
flat_sum n a (suc m) =
    let p = sum_by-cons (λ (k : ℕ). n) a (range_with_len (a + 1) m) in
    let q = flat_sum n (a + 1) m in
    let r : suc m * n ≡ m * n + n = suc-mul m n in
    omega (arith, p, q, r)

-- each term has two parts
pub two_sums : (f g h : ℕ → ℕ) (xs : List ℕ) → ((k : ℕ) → g k + h k ≡ f k) → sum_by g xs + sum_by h xs ≡ sum_by f xs
two_sums f g h [] e = refl
two_sums f g h (x ∷ xs) e =
    let a = e x in
    let b = two_sums f g h xs e in
    let p = sum_by-cons f x xs in
    let q = sum_by-cons g x xs in
    let r = sum_by-cons h x xs in
    omega (arith, a, b, p, q, r)

module _ (f g : ℕ → ℕ) (c : ℕ) where
  outside : (a n : ℕ) → c < a → ((k : ℕ) → k ≢ c → g k ≡ f k) → sum_by g (range_with_len a n) ≡ sum_by f (range_with_len a n)
  outside a zero l h = refl
  outside a (suc n) l h =
      sum_by-cons g a (range_with_len (a + 1) n)
      ∙ ap₂ (λ (x y : ℕ). x + y) (h a (λ e. absurd (omega (arith, e, l)))) (outside (a + 1) n (omega (arith, l)) h)
      ∙ sym (sum_by-cons f a (range_with_len (a + 1) n))

  -- one term changes
  pub one_sum : (a n : ℕ) → a ≤ c → c < a + n → ((k : ℕ) → k ≢ c → g k ≡ f k)
      → sum_by g (range_with_len a n) + f c ≡ sum_by f (range_with_len a n) + g c
  one_sum a zero l m h = absurd (omega (arith, l, m))
  one_sum a (suc n) l m h =
      let p = sum_by-cons g a (range_with_len (a + 1) n) in
      let q = sum_by-cons f a (range_with_len (a + 1) n) in
      elim (cases_eq a c) [
        | inl e ↦ (let r = outside (a + 1) n (omega (arith, e)) h in let x = ap f e in let y = ap g e in omega (arith, p, q, r, x, y))
        | inr e ↦ (let r = one_sum (a + 1) n (omega (arith, l, e)) (omega (arith, m)) h in let x = h a e in omega (arith, p, q, r, x))
      ]
