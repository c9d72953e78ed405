-- Counts of what passes a test, what holds of each, and how many there can be.
use Rattle.std.proofs.Common.{ℕ, zero, suc, ◌+◌, ◌<◌, ◌≤◌, ◌≡◌, Bool, true, false, ◌==◌, ◌||◌, not, cond, List, [], ◌∷◌, ◌++◌, length, refl, sym, ap, ◌∙◌, arith, inl, inr}
use Rattle.std.proofs.lemmas.Bool.{eq-eqb, ne_eqb, cases_eq, or_parts}
use Rattle.std.proofs.lemmas.List.Folds.{list_any-append}
use Rattle.std.specs.List.{AllByRecursion as Each, filter, list_any}
use Rattle.dm_model.specs.Words.{count_of}

count_step : (b : Bool) (m n k : ℕ) → m ≡ n + k → cond b (suc m) m ≡ cond b (suc n) n + k
count_step true m n k e = omega arith
count_step false m n k e = omega arith

pub count-append : {X : Type 0} (p : X → Bool) (xs ys : List X) → count_of p (xs ++ ys) ≡ count_of p xs + count_of p ys
count-append p [] ys = omega arith
count-append p (x ∷ xs) ys = count_step (p x) (count_of p (xs ++ ys)) (count_of p xs) (count_of p ys) (count-append p xs ys)

filter_step : {X : Type 0} (p q : X → Bool) (x : X) (xs : List X) → count_of p (filter q xs) ≤ count_of p xs → (a b : Bool) → p x ≡ a
    → count_of p (cond b (x ∷ filter q xs) (filter q xs)) ≤ cond a (suc (count_of p xs)) (count_of p xs)
filter_step p q x xs h true true e = rw e (omega arith)
filter_step p q x xs h true false e = omega arith
filter_step p q x xs h false true e = rw e h
filter_step p q x xs h false false e = h

-- a filter has no more of them
pub count-filter : {X : Type 0} (p q : X → Bool) (xs : List X) → count_of p (filter q xs) ≤ count_of p xs
count-filter p q [] = omega arith
count-filter p q (x ∷ xs) = filter_step p q x xs (count-filter p q xs) (p x) (q x) refl

none_step : (b : Bool) (m : ℕ) → b ≡ false → m ≡ 0 → cond b (suc m) m ≡ 0
none_step true m e h = absurd (cc (e))
none_step false m e h = h

pub count_none : {X : Type 0} (p : X → Bool) (xs : List X) → Each (λ x. p x ≡ false) xs → count_of p xs ≡ 0
count_none p [] h = refl
count_none p (x ∷ xs) h = none_step (p x) (count_of p xs) h.0 (count_none p xs h.1)

pub count_any : {X : Type 0} (p : X → Bool) (xs : List X) → list_any p xs ≡ false → count_of p xs ≡ 0
count_any p [] h = refl
count_any p (x ∷ xs) h = let q = or_parts (p x) (list_any p xs) h in none_step (p x) (count_of p xs) q.0 (count_any p xs q.1)

zero_step : (b : Bool) (m : ℕ) → cond b (suc m) m ≡ 0 → (b ≡ false) × (m ≡ 0)
zero_step true m h = absurd (omega arith)
zero_step false m h = (refl, h)

pub none_counted : {X : Type 0} (p : X → Bool) (xs : List X) → count_of p xs ≡ 0 → Each (λ x. p x ≡ false) xs
none_counted p [] h = tt
none_counted p (x ∷ xs) h = let z = zero_step (p x) (count_of p xs) h in (z.0, none_counted p xs z.1)

more_step : (a b : Bool) (m n : ℕ) → (a ≡ true → b ≡ true) → m ≤ n → cond a (suc m) m ≤ cond b (suc n) n
more_step true true m n f h = omega arith
more_step true false m n f h = absurd (let e = f refl in cc (e))
more_step false true m n f h = omega arith
more_step false false m n f h = h

-- a weaker test counts no fewer
pub count_weaker : {X : Type 0} (p q : X → Bool) → ((x : X) → p x ≡ true → q x ≡ true) → (xs : List X) → count_of p xs ≤ count_of q xs
count_weaker p q f [] = omega arith
count_weaker p q f (x ∷ xs) = more_step (p x) (q x) (count_of p xs) (count_of q xs) (f x) (count_weaker p q f xs)

-- ---- each

pub each_parts : {X : Type 0} (P : X → Type 0) (xs ys : List X) → Each P (xs ++ ys) → Each P xs × Each P ys
each_parts P [] ys h = (tt, h)
each_parts P (x ∷ xs) ys h = let r = each_parts P xs ys h.1 in ((h.0, r.0), r.1)

pub each_both : {X : Type 0} (P : X → Type 0) (xs ys : List X) → Each P xs → Each P ys → Each P (xs ++ ys)
each_both P [] ys h k = k
each_both P (x ∷ xs) ys h k = (h.0, each_both P xs ys h.1 k)

pub each_filter : {X : Type 0} (P : X → Type 0) (q : X → Bool) (xs : List X) → Each P xs → Each P (filter q xs)
each_filter P q [] h = tt
each_filter P q (x ∷ xs) h = by_test (each_filter P q xs h.1) (q x)
  where
    by_test : Each P (filter q xs) → (b : Bool) → Each P (cond b (x ∷ filter q xs) (filter q xs))
    by_test rest true = (h.0, rest)
    by_test rest false = rest

-- ---- at most as many as there are numbers

-- how many have one of the numbers 1 to n
abbrev total : {X : Type 0} → (X → ℕ) → ℕ → List X → ℕ
total f zero xs = 0
total f (suc n) xs = count_of (λ x. f x == suc n) xs + total f n xs

total_nil : {X : Type 0} (f : X → ℕ) (n : ℕ) → total f n [] ≡ 0
total_nil f zero = refl
total_nil f (suc n) = let h = total_nil f n in omega arith

above_step : (b : Bool) (c t t' : ℕ) → b ≡ false → t' ≡ t → cond b (suc c) c + t' ≡ c + t
above_step true c t t' e h = absurd (cc (e))
above_step false c t t' e h = omega arith

-- one with a number above n counts for none of them
total_above : {X : Type 0} (f : X → ℕ) (n : ℕ) (x : X) (xs : List X) → n < f x → total f n (x ∷ xs) ≡ total f n xs
total_above f zero x xs l = refl
total_above f (suc n) x xs l = above_step (f x == suc n) (count_of (λ y. f y == suc n) xs) (total f n xs) (total f n (x ∷ xs))
    (ne_eqb (f x) (suc n) (λ e. omega (arith, e))) (total_above f n x xs (omega arith))

at_step : (b : Bool) (c t t' : ℕ) → b ≡ true → t' ≡ t → cond b (suc c) c + t' ≡ suc (c + t)
at_step true c t t' e h = omega arith
at_step false c t t' e h = absurd (cc (e))

below_step : (b : Bool) (c t t' : ℕ) → b ≡ false → t' ≡ suc t → cond b (suc c) c + t' ≡ suc (c + t)
below_step true c t t' e h = absurd (cc (e))
below_step false c t t' e h = omega arith

total_more : {X : Type 0} (f : X → ℕ) (n : ℕ) (x : X) (xs : List X) → 1 ≤ f x → f x ≤ n → total f n (x ∷ xs) ≡ suc (total f n xs)
total_more f zero x xs l m = absurd (omega arith)
total_more f (suc n) x xs l m = elim (cases_eq (f x) (suc n)) [
  | inl e ↦ at_step (f x == suc n) (count_of (λ y. f y == suc n) xs) (total f n xs) (total f n (x ∷ xs)) (eq-eqb (f x) (suc n) e)
      (total_above f n x xs (omega (arith, e)))
  | inr e ↦ below_step (f x == suc n) (count_of (λ y. f y == suc n) xs) (total f n xs) (total f n (x ∷ xs)) (ne_eqb (f x) (suc n) e)
      (total_more f n x xs l (omega (arith, e)))
]

total_length : {X : Type 0} (f : X → ℕ) (n : ℕ) (xs : List X) → Each (λ x. (1 ≤ f x) × (f x ≤ n)) xs → length xs ≡ total f n xs
total_length f n [] h = sym (total_nil f n)
total_length f n (x ∷ xs) h = ap (λ (k : ℕ). suc k) (total_length f n xs h.1) ∙ sym (total_more f n x xs h.0.0 h.0.1)

total_few : {X : Type 0} (f : X → ℕ) (n : ℕ) (xs : List X) → ((k : ℕ) → count_of (λ x. f x == k) xs ≤ 1) → total f n xs ≤ n
total_few f zero xs h = omega arith
total_few f (suc n) xs h = let here = h (suc n) in let rest = total_few f n xs h in omega arith

-- numbers from 1 to n, none twice, are at most n
pub few : {X : Type 0} (f : X → ℕ) (n : ℕ) (xs : List X) → Each (λ x. (1 ≤ f x) × (f x ≤ n)) xs → ((k : ℕ) → count_of (λ x. f x == k) xs ≤ 1) → length xs ≤ n
few f n xs h k = let e = total_length f n xs h in let l = total_few f n xs k in omega arith

-- none passes where their count is 0
pub none_is_no_count : {X : Type 0} (p : X → Bool) (xs : List X) → not (list_any p xs) ≡ (count_of p xs == 0)
none_is_no_count p [] = refl
none_is_no_count p (x ∷ xs) = by_test (p x) (none_is_no_count p xs)
  where
    by_test : (b : Bool) → not (list_any p xs) ≡ (count_of p xs == 0) → not (b || list_any p xs) ≡ (cond b (suc (count_of p xs)) (count_of p xs) == 0)
    by_test true h = sym (ne_eqb (suc (count_of p xs)) 0 (λ e. omega (arith, e)))
    by_test false h = h

-- the same of two lists, tested one after the other
pub none_of_both : {X : Type 0} (p : X → Bool) (xs ys : List X) (a : Bool) → list_any p xs ≡ a
    → cond a false (not (list_any p ys)) ≡ (count_of p (xs ++ ys) == 0)
none_of_both p xs ys a e = by_first a ∙ ap (λ (b : Bool). not (b || list_any p ys)) (sym e) ∙ ap (λ (b : Bool). not b) (sym (list_any-append p xs ys))
    ∙ none_is_no_count p (xs ++ ys)
  where
    by_first : (a : Bool) → cond a false (not (list_any p ys)) ≡ not (a || list_any p ys)
    by_first true = refl
    by_first false = refl
