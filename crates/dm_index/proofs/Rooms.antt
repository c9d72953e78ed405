-- What is read of each list, where one of them is changed.
use Rattle.std.proofs.Common.{ℕ, zero, suc, ◌+◌, ◌<◌, ◌≤◌, ◌≡◌, ◌≢◌, ◌==◌, if◌then◌else◌, List, [], ◌∷◌, length, map, refl, sym, ap, ◌∙◌, arith, set, get_or}
use Rattle.std.proofs.Common.{inl, inr}
use Rattle.std.proofs.lemmas.Bool.{cases_eq, eq-eqb, cond-true}
use Rattle.std.specs.Prelude.{slice_index}

module _ {X : Type 0} (f : X → ℕ) where
  -- the list that was put there
  pub own_read : (xs : List X) (i : ℕ) (y : X) → i < length xs → slice_index (map f (set xs i y)) i ≡ f y
  own_read [] i y h = absurd (omega (arith, h))
  own_read (x ∷ xs) zero y h = refl
  own_read (x ∷ xs) (suc i) y h = own_read xs i y (omega (arith, h))

  -- the one that stood there
  pub old_read : (xs : List X) (i : ℕ) (x : X) → i < length xs → x ≡ get_or xs i x → slice_index (map f xs) i ≡ f x
  old_read [] i x h e = absurd (omega (arith, h))
  old_read (z ∷ xs) zero x h e = ap f (sym e)
  old_read (z ∷ xs) (suc i) x h e = old_read xs i x (omega (arith, h)) e

  pub other_read : (xs : List X) (i k : ℕ) (y : X) → k ≢ i → slice_index (map f (set xs i y)) k ≡ slice_index (map f xs) k
  other_read [] zero k y n = refl
  other_read [] (suc i) k y n = refl
  other_read (x ∷ xs) zero zero y n = absurd (n refl)
  other_read (x ∷ xs) zero (suc k) y n = refl
  other_read (x ∷ xs) (suc i) zero y n = refl
  other_read (x ∷ xs) (suc i) (suc k) y n = other_read xs i k y (λ e. n (ap suc e))

  -- where one takes a place, it alone has less room
  pub one_less : (xs : List X) (i : ℕ) (x y : X) → i < length xs → x ≡ get_or xs i x → f x ≤ f y + 1
      → (k : ℕ) → slice_index (map f xs) k ≤ slice_index (map f (set xs i y)) k + (if k == i then 1 else 0)
  one_less xs i x y h e less k = elim (cases_eq k i) [
    | inl p ↦ (
        let before : slice_index (map f xs) k ≡ f x = ap (λ (j : ℕ). slice_index (map f xs) j) p ∙ old_read xs i x h e in
        let after : slice_index (map f (set xs i y)) k ≡ f y = ap (λ (j : ℕ). slice_index (map f (set xs i y)) j) p ∙ own_read xs i y h in
        let one : ◌≡◌ {A = ℕ} (if k == i then 1 else 0) 1 = cond-true (k == i) 1 0 (eq-eqb k i p) in
        omega (arith, before, after, one, less)
        )
    | inr n ↦ (let same = other_read xs i k y n in omega (arith, same))
  ]

  -- where one gets room, none has less
  pub none_less : (xs : List X) (i : ℕ) (x y : X) → i < length xs → x ≡ get_or xs i x → f x ≤ f y
      → (k : ℕ) → slice_index (map f xs) k ≤ slice_index (map f (set xs i y)) k
  none_less xs i x y h e more k = elim (cases_eq k i) [
    | inl p ↦ (
        let before : slice_index (map f xs) k ≡ f x = ap (λ (j : ℕ). slice_index (map f xs) j) p ∙ old_read xs i x h e in
        let after : slice_index (map f (set xs i y)) k ≡ f y = ap (λ (j : ℕ). slice_index (map f (set xs i y)) j) p ∙ own_read xs i y h in
        omega (arith, before, after, more)
        )
    | inr n ↦ (let same = other_read xs i k y n in omega (arith, same))
  ]

-- a list with another of the same items
pub same_items : {X Y : Type 0} (f : X → Y) (xs : List X) (i : ℕ) (x y : X) → i < length xs → x ≡ get_or xs i x → f y ≡ f x → map f (set xs i y) ≡ map f xs
same_items f [] i x y l e g = absurd (omega (arith, l))
same_items {Y = Y} f (z ∷ xs) zero x y l e g = ap (λ (w : Y). w ∷ map f xs) (g ∙ ap f e)
same_items {Y = Y} f (z ∷ xs) (suc i) x y l e g = ap (λ (w : List Y). f z ∷ w) (same_items f xs i x y (omega (arith, l)) e g)
