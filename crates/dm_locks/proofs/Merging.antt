-- The first common key of two ascending lists, found by going over both at once.
use Rattle.std.proofs.Common.{ℕ, zero, suc, ◌+◌, ◌<◌, ◌≤◌, ◌≡◌, Bool, true, false, ◌==◌, List, [], ◌∷◌, length, get_or, drop, refl, sym, ap, ◌∙◌, subst, arith}
use Rattle.std.proofs.lemmas.Bool.{ne_eqb, eq-eqb, or_from, or_left, or_right}
use Rattle.std.proofs.lemmas.List.{drop_more, drop_all}
use Rattle.std.specs.List.{AllByRecursion as Each}
use Rattle.std.specs.List.Sorted.{IsStrictlyIncreasing}
use Rattle.std.specs.Prelude.{Some, None, find, ◌||◌, cond}
use Rattle.dm_model.proofs.ListFacts.{each_map}
use Rattle.dm_model.specs.Allowed.{common_key}
use Rattle.dm_model.specs.Tests.{is_among}

-- each number is below all later ones
abbrev pub Ascends : List ℕ → Type 0
Ascends [] = Unit {0}
Ascends (x ∷ xs) = Each (λ y. x < y) xs × Ascends xs

rest_increases : (x : ℕ) (xs : List ℕ) → IsStrictlyIncreasing (x ∷ xs) → IsStrictlyIncreasing xs
rest_increases x xs h k l =
    let more : suc k + 1 ≡ suc (k + 1) = omega arith in
    subst (λ (n : ℕ). get_or (x ∷ xs) (suc k) 0 < get_or (x ∷ xs) n 0) more (h (suc k) (omega arith))

all_above : (low : ℕ) (xs : List ℕ) → (0 < length xs → low < get_or xs 0 0) → IsStrictlyIncreasing xs → Each (λ y. low < y) xs
all_above low [] first h = tt
all_above low (x ∷ xs) first h =
    let here : low < x = first (omega arith) in
    let next : 0 < length xs → x < get_or xs 0 0 = λ l. h 0 (omega arith) in
    (here, all_above low xs (λ l. let n : x < get_or xs 0 0 = next l in omega arith) (rest_increases x xs h))

pub ascends_from : (xs : List ℕ) → IsStrictlyIncreasing xs → Ascends xs
ascends_from [] h = tt
ascends_from (x ∷ xs) h = (all_above x xs (λ l. h 0 (omega arith)) (rest_increases x xs h), ascends_from xs (rest_increases x xs h))

ascends_drop : (i : ℕ) (xs : List ℕ) → Ascends xs → Ascends (drop i xs)
ascends_drop zero xs h = h
ascends_drop (suc i) [] h = tt
ascends_drop (suc i) (x ∷ xs) h = ascends_drop i xs h.1

pub none_above : (key : ℕ) (xs : List ℕ) → Each (λ y. key < y) xs → is_among xs key ≡ false
none_above key [] h = refl
none_above key (x ∷ xs) h =
    let l : key < x = h.0 in
    or_from (x == key) (is_among xs key) (ne_eqb x key (λ e. omega (arith, e))) (none_above key xs h.1)

find_skips : (b : Bool) (key : ℕ) (keys others : List ℕ) → b ≡ false → cond b (Some key) (common_key keys others) ≡ common_key keys others
find_skips true key keys others e = absurd (cc (e))
find_skips false key keys others e = refl

-- a key below all others is none of them
less : (k o : ℕ) (ks os : List ℕ) → Ascends (o ∷ os) → k < o → common_key ks (o ∷ os) ≡ common_key (k ∷ ks) (o ∷ os)
less k o ks os h l =
    let above : Each (λ y. k < y) (o ∷ os) = (l, each_map (λ y. o < y) (λ y. k < y) (λ y m. omega arith) os h.0) in
    sym (find_skips (is_among (o ∷ os) k) k ks (o ∷ os) (none_above k (o ∷ os) above))

or_skips : (b c : Bool) → b ≡ false → (b || c) ≡ c
or_skips true c e = absurd (cc (e))
or_skips false c e = refl

-- another key below all keys is none of them
greater : (o : ℕ) (ks os : List ℕ) → Each (λ k. o < k) ks → common_key ks os ≡ common_key ks (o ∷ os)
greater o [] os h = refl
greater o (k ∷ ks) os h =
    let l : o < k = h.0 in
    let same : is_among (o ∷ os) k ≡ is_among os k = or_skips (o == k) (is_among os k) (ne_eqb o k (λ e. omega (arith, e))) in
    ap (λ o'. cond (is_among os k) (Some k) o') (greater o ks os h.1) ∙ ap (λ b. cond b (Some k) (common_key ks (o ∷ os))) (sym same)

pub none_common : (keys : List ℕ) → common_key keys [] ≡ None
none_common [] = refl
none_common (k ∷ keys) = none_common keys

pub found_among : (p : ℕ → Bool) (key : ℕ) (keys : List ℕ) → find p keys ≡ Some key → is_among keys key ≡ true
found_among p key [] h = absurd (cc (h))
found_among p key (k ∷ ks) h = by_test (p k) (found_among p key ks) h
  where
    by_test : (b : Bool) → (find p ks ≡ Some key → is_among ks key ≡ true) → cond b (Some k) (find p ks) ≡ Some key → is_among (k ∷ ks) key ≡ true
    by_test true rest e = let same : k ≡ key = cc (e) in or_left (k == key) (is_among ks key) (eq-eqb k key same)
    by_test false rest e = or_right (k == key) (is_among ks key) (rest e)

-- ---- the same at a place in each list

pub at_less : (keys others : List ℕ) (i j : ℕ) → IsStrictlyIncreasing others → i < length keys → j < length others → get_or keys i 0 < get_or others j 0
    → common_key (drop (i + 1) keys) (drop j others) ≡ common_key (drop i keys) (drop j others)
at_less keys others i j h l m n =
    subst (λ (os : List ℕ). Ascends os → common_key (drop (i + 1) keys) os ≡ common_key (drop i keys) os) (sym (drop_more others j 0 m))
    (subst (λ (ks : List ℕ). Ascends (get_or others j 0 ∷ drop (j + 1) others)
    → common_key (drop (i + 1) keys) (get_or others j 0 ∷ drop (j + 1) others) ≡ common_key ks (get_or others j 0 ∷ drop (j + 1) others))
    (sym (drop_more keys i 0 l))
    (λ up. less (get_or keys i 0) (get_or others j 0) (drop (i + 1) keys) (drop (j + 1) others) up n))
    (ascends_drop j others (ascends_from others h))

pub at_greater : (keys others : List ℕ) (i j : ℕ) → IsStrictlyIncreasing keys → i < length keys → j < length others → get_or others j 0 < get_or keys i 0
    → common_key (drop i keys) (drop (j + 1) others) ≡ common_key (drop i keys) (drop j others)
at_greater keys others i j h l m n =
    subst (λ (os : List ℕ). common_key (drop i keys) (drop (j + 1) others) ≡ common_key (drop i keys) os) (sym (drop_more others j 0 m))
    (greater (get_or others j 0) (drop i keys) (drop (j + 1) others)
    (subst (λ (ks : List ℕ). Ascends ks → Each (λ y. get_or others j 0 < y) ks) (sym (drop_more keys i 0 l))
    (λ up. (n, each_map (λ y. get_or keys i 0 < y) (λ y. get_or others j 0 < y) (λ y p. omega arith) (drop (i + 1) keys) up.0))
    (ascends_drop i keys (ascends_from keys h))))

pub at_other_end : (keys others : List ℕ) (j : ℕ) → length others ≤ j → common_key keys (drop j others) ≡ None
at_other_end keys others j l = ap (λ (os : List ℕ). common_key keys os) (drop_all j others l) ∙ none_common keys
