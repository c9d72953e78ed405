-- Searches in lists, and what holds of each element.
use Rattle.std.proofs.Common.{ℕ, suc, ◌<◌, ◌≤◌, ◌≡◌, true, false, cond, List, [], ◌∷◌, refl, sym, ap, ◌∙◌, arith, inl, inr, zero, ◌+◌, Bool, ◌++◌, Option, Some}
use Rattle.std.proofs.Common.{None, subst, if◌then◌else◌, map, ap₂}
use Rattle.std.proofs.lemmas.Bool.{cases_eq, false≢true}
use Rattle.std.proofs.lemmas.List.{reverse-append}
use Rattle.std.specs.List.{AllByRecursion as Each, range_with_len, cons_option}
use Rattle.std.specs.Prelude.{find, is_none, reverse}

-- a fact of each element for another
pub each_map : {X : Type 0} (P Q : X → Type 0) → ((x : X) → P x → Q x) → (xs : List X) → Each P xs → Each Q xs
each_map P Q f [] h = tt
each_map P Q f (x ∷ xs) h = (f x h.0, each_map P Q f xs h.1)

pub each_map2 : {X : Type 0} (P Q R : X → Type 0) → ((x : X) → P x → Q x → R x) → (xs : List X) → Each P xs → Each Q xs → Each R xs
each_map2 P Q R f [] h k = tt
each_map2 P Q R f (x ∷ xs) h k = (f x h.0 k.0, each_map2 P Q R f xs h.1 k.1)

find_at_none : {X : Type 0} (p : X → Bool) (x : X) (b : Bool) (o : Option X) → cond b (Some x) o ≡ None → (b ≡ false) × (o ≡ None)
find_at_none p x true o h = absurd (cc (h))
find_at_none p x false o h = (refl, h)

-- no element passes
pub find_none : {X : Type 0} (p : X → Bool) (xs : List X) → find p xs ≡ None → Each (λ x. p x ≡ false) xs
find_none p [] h = tt
find_none p (x ∷ xs) h = (let q = find_at_none p x (p x) (find p xs) h in (q.0, find_none p xs q.1))

-- what holds of each number of a range holds of one that is in it
pub each_range : (P : ℕ → Type 0) (a n : ℕ) → Each P (range_with_len a n) → (j : ℕ) → a ≤ j → j < a + n → P j
each_range P a zero h j l m = absurd (omega arith)
each_range P a (suc n) h j l m = elim (cases_eq a j) [ inl p ↦ subst P p h.0 | inr q ↦ each_range P (a + 1) n h.1 j (omega (arith, q)) (omega arith) ]

-- what holds of each element holds of the one that is found
pub found_each : {X : Type 0} (P : X → Type 0) (p : X → Bool) (xs : List X) (x : X) → find p xs ≡ Some x → Each P xs → P x
found_each P p [] x f h = absurd (cc (f))
found_each P p (y ∷ ys) x f h = at_head (λ g. found_each P p ys x g h.1) (p y) f
  where
    at_head : (find p ys ≡ Some x → P x) → (b : Bool) → cond b (Some y) (find p ys) ≡ Some x → P x
    at_head rest true g = (let same : y ≡ x = cc (g) in subst P same h.0)
    at_head rest false g = rest g

-- what is found passes
pub found_holds : {X : Type 0} (p : X → Bool) (xs : List X) (x : X) → find p xs ≡ Some x → p x ≡ true
found_holds p [] x f = absurd (cc (f))
found_holds p (y ∷ ys) x f = at_head (λ g. found_holds p ys x g) (p y) refl f
  where
    at_head : (find p ys ≡ Some x → p x ≡ true) → (b : Bool) → p y ≡ b → cond b (Some y) (find p ys) ≡ Some x → p x ≡ true
    at_head rest true e g = (let same : y ≡ x = cc (g) in ap p (sym same) ∙ e)
    at_head rest false e g = rest g

each_append : {X : Type 0} (P : X → Type 0) (xs ys : List X) → Each P (xs ++ ys) → Each P xs × Each P ys
each_append P [] ys h = (tt, h)
each_append P (x ∷ xs) ys h = (let r = each_append P xs ys h.1 in ((h.0, r.0), r.1))

pub each_reverse : {X : Type 0} (P : X → Type 0) (xs : List X) → Each P (reverse xs) → Each P xs
each_reverse P [] h = tt
each_reverse P (x ∷ xs) h =
    let r = each_append P (reverse xs) (x ∷ []) (subst (λ (l : List _). Each P l) (reverse-append (x ∷ []) xs) h) in
    (r.1.0, each_reverse P xs r.0)

pub is_none_true : {X : Type 0} (o : Option X) → is_none o ≡ true → o ≡ None
is_none_true None h = refl
is_none_true (Some x) h = absurd (false≢true h)

-- a list with one more or not, by a test
pub cons_true : {X : Type 0} (b : Bool) (x : X) (xs : List X) → b ≡ true → cons_option (if b then Some x else None) xs ≡ x ∷ xs
cons_true true x xs h = refl
cons_true false x xs h = absurd (false≢true h)

pub cons_false : {X : Type 0} (b : Bool) (x : X) (xs : List X) → b ≡ false → cons_option (if b then Some x else None) xs ≡ xs
cons_false true x xs h = absurd (false≢true (sym h))
cons_false false x xs h = refl

-- functions that agree on a range
pub map_same : (f g : ℕ → ℕ) (a n : ℕ) → ((j : ℕ) → a ≤ j → j < a + n → f j ≡ g j) → map f (range_with_len a n) ≡ map g (range_with_len a n)
map_same f g a zero h = refl
map_same f g a (suc n) h = ap₂ (λ (x : ℕ) (xs : List ℕ). x ∷ xs) (h a (omega arith) (omega arith))
    (map_same f g (a + 1) n (λ j l m. h j (omega arith) (omega arith)))
