-- Keys in ascending order: what a sort makes of them is their ascending list.
use Rattle.std.proofs.Common.{ℕ, zero, suc, ◌+◌, ◌<◌, ◌≤◌, ◌≡◌, ◌≢◌, List, [], ◌∷◌, Option, Some, None, length, get_or, refl, ap, sym, ◌∙◌, arith, subst, inl}
use Rattle.std.proofs.Common.{inr}
use Rattle.std.specs.Prelude.{◌==◌, nat_lt, option_map, option_and_then, if◌then◌else◌, sum_by}
use Rattle.std.specs.List.Sorted.{IsStrictlyIncreasing, IsPermutation, IsSorted}
use Rattle.std.specs.Ordering.{nat_cmp}
use Rattle.std.proofs.lemmas.Bool.{cases_eq, cases_lt, cases_order, eq-eqb, ne_eqb, lt-ltb, le-ltb, cond-true, cond-false}
use Rattle.std.proofs.lemmas.List.Sorted.{sum_by-IsPermutation, IsNonDecreasingBy-from_sort}
use Rattle.std.proofs.lemmas.List.Sums.{sum_by-cons}
use Rattle.std.proofs.lemmas.List.Kept.{AllPairs-from_increasing}
use Rattle.dm_event.specs.Ascending.{ascending, with_key}

-- x is below each
abbrev Below : ℕ → List ℕ → Type 0
Below x [] = Unit {0}
Below x (y ∷ ys) = (x < y) × Below x ys

-- each is below all later ones
abbrev Rises : List ℕ → Type 0
Rises [] = Unit {0}
Rises (x ∷ xs) = Below x xs × Rises xs

-- how often x stands in the list
abbrev times : ℕ → List ℕ → ℕ
times x [] = 0
times x (y ∷ ys) = (if y == x then 1 else 0) + times x ys

below_less : (x y : ℕ) (ys : List ℕ) → x < y → Below y ys → Below x ys
below_less x y [] h b = tt
below_less x y (z ∷ zs) h b = (omega (arith, h, b.0), below_less x y zs h b.1)

here : (x : ℕ) (ys : List ℕ) → times x (x ∷ ys) ≡ 1 + times x ys
here x ys = ap (λ (n : ℕ). n + times x ys) (cond-true (x == x) 1 0 (eq-eqb x x refl))

there : (x y : ℕ) (ys : List ℕ) → y ≢ x → times x (y ∷ ys) ≡ times x ys
there x y ys h = ap (λ (n : ℕ). n + times x ys) (cond-false (y == x) 1 0 (ne_eqb y x h)) ∙ omega arith

none_below : (x : ℕ) (ys : List ℕ) → Below x ys → times x ys ≡ 0
none_below x [] b = refl
none_below x (y ∷ ys) b = there x y ys (λ e. omega (arith, e, b.0)) ∙ none_below x ys b.1

once : (x : ℕ) (xs : List ℕ) → Rises xs → times x xs ≤ 1
once x [] r = omega arith
once x (y ∷ ys) r = elim (cases_eq y x) [
  | inl e ↦ (let one : times x (y ∷ ys) ≡ 1 + times x ys = subst (λ (z : ℕ). times x (z ∷ ys) ≡ 1 + times x ys) (sym e) (here x ys) in
      let two : times x ys ≡ 0 = none_below x ys (subst (λ (z : ℕ). Below z ys) e r.0) in omega (arith, one, two))
  | inr n ↦ (let one = there x y ys n in let two = once x ys r.1 in omega (arith, one, two))
]

-- two rising lists with the same numbers are one
same_list : (xs ys : List ℕ) → Rises xs → Rises ys → ((x : ℕ) → times x xs ≡ times x ys) → xs ≡ ys
same_list [] [] r s h = refl
same_list [] (y ∷ ys) r s h = absurd (let one = h y in let two = here y ys in omega (arith, one, two))
same_list (x ∷ xs) [] r s h = absurd (let one = h x in let two = here x xs in omega (arith, one, two))
same_list (x ∷ xs) (y ∷ ys) r s h = elim (cases_order x y) [
  | inl e ↦ (ap (λ (z : ℕ). z ∷ xs) e ∙ ap (λ (l : List ℕ). y ∷ l) (same_list xs ys r.1 s.1 (λ z.
      let one : times z (x ∷ xs) ≡ times z (y ∷ ys) = h z in
      let two : times z (x ∷ xs) ≡ (if y == z then 1 else 0) + times z xs = ap (λ (w : ℕ). (if w == z then 1 else 0) + times z xs) e in
      omega (arith, one, two))))
  | inr o ↦ elim o [
    | inl l ↦ absurd (let one = h x in let two = here x xs in let three : times x (y ∷ ys) ≡ 0 = none_below x (y ∷ ys) (l, below_less x y ys l s.0) in
        omega (arith, one, two, three))
    | inr g ↦ absurd (let one = h y in let two = here y ys in let three : times y (x ∷ xs) ≡ 0 = none_below y (x ∷ xs) (g, below_less y x xs g r.0) in
        omega (arith, one, two, three))
  ]
]

-- the list, if there is one
abbrev list_of : Option (List ℕ) → List ℕ
list_of None = []
list_of (Some xs) = xs

-- what a key put at its place gives
record Placed (key : ℕ) (xs : List ℕ) (o : Option (List ℕ)) : Type 0 where
  rises : (zs : List ℕ) → o ≡ Some zs → Rises zs
  counts : (zs : List ℕ) → o ≡ Some zs → (x : ℕ) → times x zs ≡ (if key == x then 1 else 0) + times x xs
  lower : (zs : List ℕ) → o ≡ Some zs → (w : ℕ) → w < key → Below w xs → Below w zs
  again : o ≡ None → 1 ≤ times key xs

placed_first : (key : ℕ) (xs : List ℕ) → Below key xs → Rises xs → Placed key xs (Some (key ∷ xs))
placed_first key xs b r = record {
  rises = λ zs e. subst (λ (o : Option (List ℕ)). Rises (list_of o)) e (b, r);
  counts = λ zs e x. subst (λ (o : Option (List ℕ)). times x (list_of o) ≡ (if key == x then 1 else 0) + times x xs) e refl;
  lower = λ zs e w h k. subst (λ (o : Option (List ℕ)). Below w (list_of o)) e (h, k);
  again = λ e. absurd (cc (e));
}

placed_after : (key x : ℕ) (xs : List ℕ) (o : Option (List ℕ)) → x < key → Below x xs → Placed key xs o → Placed key (x ∷ xs) (option_map (λ more. x ∷ more) o)
placed_after key x xs None h b p = record {
  rises = λ zs e. absurd (cc (e));
  counts = λ zs e. absurd (cc (e));
  lower = λ zs e. absurd (cc (e));
  again = λ e. (let one = p.again refl in omega (arith, one));
}
placed_after key x xs (Some ys) h b p = record {
  rises = λ zs e. subst (λ (o : Option (List ℕ)). Rises (list_of o)) e (p.lower ys refl x h b, p.rises ys refl);
  counts = λ zs e y. subst (λ (o : Option (List ℕ)). times y (list_of o) ≡ (if key == y then 1 else 0) + times y (x ∷ xs)) e
      (let one = p.counts ys refl y in omega (arith, one));
  lower = λ zs e w l k. subst (λ (o : Option (List ℕ)). Below w (list_of o)) e (k.0, p.lower ys refl w l k.1);
  again = λ e. absurd (cc (e));
}

with_key_below : (key x : ℕ) (xs : List ℕ) → x < key → with_key key (x ∷ xs) ≡ option_map (λ more. x ∷ more) (with_key key xs)
with_key_below key x xs h = cond-true (nat_lt x key) _ _ (lt-ltb x key h)

with_key_same : (key x : ℕ) (xs : List ℕ) → x ≡ key → with_key key (x ∷ xs) ≡ None
with_key_same key x xs e = cond-false (nat_lt x key) _ _ (le-ltb x key (omega (arith, e))) ∙ cond-true (x == key) _ _ (eq-eqb x key e)

with_key_above : (key x : ℕ) (xs : List ℕ) → key < x → with_key key (x ∷ xs) ≡ Some (key ∷ (x ∷ xs))
with_key_above key x xs h = cond-false (nat_lt x key) _ _ (le-ltb x key (omega (arith, h)))
    ∙ cond-false (x == key) _ _ (ne_eqb x key (λ e. omega (arith, e, h)))

placed_same : (key x : ℕ) (xs : List ℕ) → x ≡ key → Placed key (x ∷ xs) None
placed_same key x xs e = record {
  rises = λ zs f. absurd (cc (f));
  counts = λ zs f. absurd (cc (f));
  lower = λ zs f. absurd (cc (f));
  again = λ f. (let one : times key (x ∷ xs) ≡ 1 + times key xs = subst (λ (z : ℕ). times key (z ∷ xs) ≡ 1 + times key xs) (sym e) (here key xs) in
      omega (arith, one));
}

placed : (key : ℕ) (xs : List ℕ) → Rises xs → Placed key xs (with_key key xs)
placed key [] r = placed_first key [] tt tt
placed key (x ∷ xs) r = elim (cases_order x key) [
  | inl e ↦ subst (λ (o : Option (List ℕ)). Placed key (x ∷ xs) o) (sym (with_key_same key x xs e)) (placed_same key x xs e)
  | inr o ↦ elim o [
    | inl l ↦ subst (λ (o : Option (List ℕ)). Placed key (x ∷ xs) o) (sym (with_key_below key x xs l))
        (placed_after key x xs (with_key key xs) l r.0 (placed key xs r.1))
    | inr g ↦ subst (λ (o : Option (List ℕ)). Placed key (x ∷ xs) o) (sym (with_key_above key x xs g))
        (placed_first key (x ∷ xs) (g, below_less key x xs g r.0) r)
  ]
]

-- what the keys in ascending order are
record InOrder (xs : List ℕ) (o : Option (List ℕ)) : Type 0 where
  rises : (zs : List ℕ) → o ≡ Some zs → Rises zs
  counts : (zs : List ℕ) → o ≡ Some zs → (x : ℕ) → times x zs ≡ times x xs
  twice : o ≡ None → (x : ℕ) × (2 ≤ times x xs)

in_order_more : (key : ℕ) (keys : List ℕ) (o : Option (List ℕ)) → InOrder keys o → InOrder (key ∷ keys) (option_and_then (with_key key) o)
in_order_more key keys None s = record {
  rises = λ zs e. absurd (cc (e));
  counts = λ zs e. absurd (cc (e));
  twice = λ e. (let t = s.twice refl in (t.0, (let one = t.1 in omega (arith, one))));
}
in_order_more key keys (Some ys) s =
    let p = placed key ys (s.rises ys refl) in
    record {
      rises = λ zs e. p.rises zs e;
      counts = λ zs e x. (let one = p.counts zs e x in let two = s.counts ys refl x in omega (arith, one, two));
      twice = λ e. (key, (let one = p.again e in let two = s.counts ys refl key in let three = here key keys in omega (arith, one, two, three)));
    }

in_order : (keys : List ℕ) → InOrder keys (ascending keys)
in_order [] = record {
  rises = λ zs e. subst (λ (o : Option (List ℕ)). Rises (list_of o)) e tt;
  counts = λ zs e x. subst (λ (o : Option (List ℕ)). times x (list_of o) ≡ 0) e refl;
  twice = λ e. absurd (cc (e));
}
in_order (key ∷ keys) = in_order_more key keys (ascending keys) (in_order keys)

below_from : (x : ℕ) (ys : List ℕ) → ((k : ℕ) → k < length ys → x < get_or ys k 0) → Below x ys
below_from x [] h = tt
below_from x (y ∷ ys) h = (h zero (omega arith), below_from x ys (λ k l. h (suc k) (omega (arith, l))))

rises_from : (xs : List ℕ) → ((i j : ℕ) → i < j → j < length xs → get_or xs i 0 < get_or xs j 0) → Rises xs
rises_from [] h = tt
rises_from (x ∷ xs) h = (
  below_from x xs (λ k l. h zero (suc k) (omega arith) (omega (arith, l))),
  rises_from xs (λ i j l m. h (suc i) (suc j) (omega (arith, l)) (omega (arith, m))),
)

rises_strictly : (xs : List ℕ) → IsStrictlyIncreasing xs → Rises xs
rises_strictly xs h = rises_from xs (λ i j l m. AllPairs-from_increasing xs h i j 0 l m)

times_are : (x : ℕ) (xs : List ℕ) → sum_by (λ y. if y == x then 1 else 0) xs ≡ times x xs
times_are x [] = refl
times_are x (y ∷ ys) = sum_by-cons (λ y. if y == x then 1 else 0) y ys ∙ ap (λ (n : ℕ). (if y == x then 1 else 0) + n) (times_are x ys)

same_times : (xs ys : List ℕ) → IsPermutation xs ys → (x : ℕ) → times x ys ≡ times x xs
same_times xs ys p x = sym (times_are x ys) ∙ sum_by-IsPermutation (λ y. if y == x then 1 else 0) xs ys p ∙ times_are x xs

two_here : (xs : List ℕ) (k : ℕ) → k + 1 < length xs → get_or xs k 0 ≡ get_or xs (k + 1) 0 → 2 ≤ times (get_or xs k 0) xs
two_here [] k h e = absurd (omega (arith, h))
two_here (x ∷ []) k h e = absurd (omega (arith, h))
two_here (x ∷ (y ∷ ys)) zero h e =
    let f : x ≡ y = e in
    let one = here x (y ∷ ys) in
    let two : times x (y ∷ ys) ≡ 1 + times x ys = subst (λ (z : ℕ). times x (z ∷ ys) ≡ 1 + times x ys) f (here x ys) in
    omega (arith, one, two)
two_here (x ∷ (y ∷ ys)) (suc k) h e =
    let more : 2 ≤ times (get_or (y ∷ ys) k 0) (y ∷ ys) = two_here (y ∷ ys) k (omega (arith, h)) (e
    ∙ ap (λ (n : ℕ). get_or (x ∷ (y ∷ ys)) n 0) (let i : suc k + 1 ≡ suc (k + 1) = omega arith in i)) in
    omega (arith, more)

-- strictly ascending keys that are those of the list are its ascending list
pub ascending_is : (list sorted : List ℕ) → IsPermutation list sorted → IsStrictlyIncreasing sorted → ascending list ≡ Some sorted
ascending_is list sorted p h = by_cases (ascending list) (in_order list)
  where
    by_cases : (o : Option (List ℕ)) → InOrder list o → o ≡ Some sorted
    by_cases None s = absurd (let t = s.twice refl in let one = t.1 in let two = same_times list sorted p t.0 in let three =
        once t.0 sorted (rises_strictly sorted h) in omega (arith, one, two, three))
    by_cases (Some zs) s = ap (λ (l : List ℕ). Some l) (same_list zs sorted (s.rises zs refl) (rises_strictly sorted h)
        (λ x. s.counts zs refl x ∙ sym (same_times list sorted p x)))

-- keys that do not rise strictly once they are sorted have no ascending list
pub no_ascending : (list sorted : List ℕ) → IsPermutation list sorted → IsSorted nat_cmp sorted → (IsStrictlyIncreasing sorted → ⊥) → ascending list ≡ None
no_ascending list sorted p o h = by_cases (ascending list) (in_order list)
  where
    rises_if : (zs : List ℕ) → InOrder list (Some zs) → IsStrictlyIncreasing sorted
    rises_if zs s k l = elim (cases_lt (get_or sorted k 0) (get_or sorted (k + 1) 0)) [
      | inl b ↦ b
      | inr a ↦ absurd (
          let up = IsNonDecreasingBy-from_sort (λ n. n) sorted o k (k + 1) 0 (omega arith) l in
          let one = two_here sorted k l (omega (arith, up, a)) in
          let two = same_times list sorted p (get_or sorted k 0) in
          let three = s.counts zs refl (get_or sorted k 0) in
          let four = once (get_or sorted k 0) zs (s.rises zs refl) in omega (arith, one, two, three, four))
    ]

    by_cases : (q : Option (List ℕ)) → InOrder list q → q ≡ None
    by_cases None s = refl
    by_cases (Some zs) s = absurd (h (rises_if zs s))
