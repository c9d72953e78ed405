-- The numbers of transactions.
use Rattle.std.proofs.Common.{ℕ, zero, suc, ◌+◌, ◌<◌, ◌≤◌, ◌≡◌, List, [], ◌∷◌, ◌++◌, length, refl, ap, ap₂, sym, ◌∙◌, arith, inl, inr, map, filter}
use Rattle.std.proofs.Common.{Bool, true, false, not, cond, nat_lt, ◌==◌, ◌&&◌, ◌||◌}
use Rattle.std.proofs.lemmas.Bool.{cases_eq, cases_lt, eq-eqb, ne_eqb, lt-ltb, le-ltb}
use Rattle.std.proofs.lemmas.List.{map-append}
use Rattle.std.proofs.lemmas.List.Elements.{filter-append}
use Rattle.std.specs.List.{list_any, list_all, range_with_len}
use Rattle.dm_restart.specs.Plans.{numbers_of, is_one_of}
use Rattle.dm_store.specs.Rising.{is_above}
use Rattle.dm_store.specs.declared.past.Past.{Past}

pub numbers-append : (origin : ℕ) (ts us : List Past) → numbers_of origin (ts ++ us) ≡ numbers_of origin ts ++ numbers_of origin us
numbers-append origin ts us =
    ap (λ (xs : List Past). map (λ t. t.seq) xs) (filter-append (λ (t : Past). t.origin == origin) ts us)
    ∙ map-append (λ (t : Past). t.seq) (filter (λ t. t.origin == origin) ts) (filter (λ t. t.origin == origin) us)

-- a front of a range is a range
pub front_range : (xs ys : List ℕ) (a n : ℕ) → xs ++ ys ≡ range_with_len a n → xs ≡ range_with_len a (length xs)
front_range [] ys a n h = refl
front_range (x ∷ xs) ys a zero h = absurd (cc (h))
front_range (x ∷ xs) ys a (suc n) h =
    let first : x ≡ a = cc (h) in
    let rest : xs ++ ys ≡ range_with_len (a + 1) n = cc (h) in
    ap₂ (λ (y : ℕ) (zs : List ℕ). y ∷ zs) first (front_range xs ys (a + 1) n rest)

-- a number is in a range where it is between its ends
pub among_range : (a n seq : ℕ) → a ≤ seq → list_any (λ s. s == seq) (range_with_len a n) ≡ nat_lt seq (a + n)
among_range a zero seq l = sym (le-ltb seq (a + 0) (omega (arith, l)))
among_range a (suc n) seq l = elim (cases_eq a seq) [
  | inl p ↦ ap (λ (b : Bool). b || list_any (λ s. s == seq) (range_with_len (a + 1) n)) (eq-eqb a seq p) ∙ sym (lt-ltb seq (a + suc n) (omega (arith, p)))
  | inr q ↦ ap (λ (b : Bool). b || list_any (λ s. s == seq) (range_with_len (a + 1) n)) (ne_eqb a seq q)
      ∙ among_range (a + 1) n seq (omega (arith, l, q))
      ∙ ap (λ (m : ℕ). nat_lt seq m) (let e : a + 1 + n ≡ a + suc n = omega arith in e)
]

-- a transaction of the origin is found by its number
pub one_of_numbers : (past : List Past) (t : Past) → is_one_of past t ≡ list_any (λ s. s == t.seq) (numbers_of t.origin past)
one_of_numbers [] t = refl
one_of_numbers (u ∷ past) t = by (u.origin == t.origin) (one_of_numbers past t)
  where
    by : (b : Bool) → is_one_of past t ≡ list_any (λ s. s == t.seq) (numbers_of t.origin past)
        → (b && (u.seq == t.seq)) || is_one_of past t
        ≡ list_any (λ s. s == t.seq) (map (λ x. x.seq) (cond b (u ∷ filter (λ x. x.origin == t.origin) past) (filter (λ x. x.origin == t.origin) past)))
    by true h = ap (λ (c : Bool). (u.seq == t.seq) || c) h
    by false h = h

above_numbers : (past : List Past) (origin seq : ℕ) → is_above past origin seq ≡ list_all (λ s. nat_lt s seq) (numbers_of origin past)
above_numbers [] origin seq = refl
above_numbers (u ∷ past) origin seq = by (u.origin == origin) (above_numbers past origin seq)
  where
    by : (b : Bool) → is_above past origin seq ≡ list_all (λ s. nat_lt s seq) (numbers_of origin past)
        → (cond b (nat_lt u.seq seq) true) && is_above past origin seq
        ≡ list_all (λ s. nat_lt s seq) (map (λ x. x.seq) (cond b (u ∷ filter (λ x. x.origin == origin) past) (filter (λ x. x.origin == origin) past)))
    by true h = ap (λ (c : Bool). nat_lt u.seq seq && c) h
    by false h = h

all_below : (a n seq : ℕ) → a + n ≤ seq → list_all (λ s. nat_lt s seq) (range_with_len a n) ≡ true
all_below a zero seq l = refl
all_below a (suc n) seq l =
    ap₂ (λ (b c : Bool). b && c) (lt-ltb a seq (omega (arith, l))) (all_below (a + 1) n seq (omega (arith, l)))

-- a number past those from 1 on is above them
pub above_range : (past : List Past) (origin seq n : ℕ) → numbers_of origin past ≡ range_with_len 1 n → n < seq → is_above past origin seq ≡ true
above_range past origin seq n e l =
    above_numbers past origin seq ∙ ap (λ (xs : List ℕ). list_all (λ s. nat_lt s seq) xs) e ∙ all_below 1 n seq (omega (arith, l))

-- a transaction is one of those numbered from 1 on where its number is no greater than theirs
pub one_of_range : (past : List Past) (t : Past) (n : ℕ) → numbers_of t.origin past ≡ range_with_len 1 n → 1 ≤ t.seq → not (is_one_of past t) ≡ nat_lt n t.seq
one_of_range past t n e l =
    ap not (one_of_numbers past t ∙ ap (λ (xs : List ℕ). list_any (λ s. s == t.seq) xs) e ∙ among_range 1 n t.seq l)
    ∙ turned n t.seq
  where
    turned : (n m : ℕ) → not (nat_lt m (1 + n)) ≡ nat_lt n m
    turned n m = elim (cases_lt n m) [
      | inl l ↦ ap not (le-ltb m (1 + n) (omega (arith, l))) ∙ sym (lt-ltb n m l)
      | inr g ↦ ap not (lt-ltb m (1 + n) (omega (arith, g))) ∙ sym (le-ltb n m g)
    ]
