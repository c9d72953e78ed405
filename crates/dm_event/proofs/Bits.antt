-- The bits of a set of partitions, and the ascending list of the partitions.
use Rattle.std.proofs.Common.{ℕ, zero, suc, ◌+◌, ◌*◌, ◌/◌, ◌%◌, ◌^◌, ◌<◌, ◌≤◌, ◌≡◌, ◌≢◌, Bool, true, false, cond, List, [], ◌∷◌, Option, Some, None, length}
use Rattle.std.proofs.Common.{get_or, set, refl, ap, ap₂, sym, ◌∙◌, arith, inl, inr, get_or-set_same, get_or-set_other, length-set}
use Rattle.std.specs.List.{list_any, range_with_len}
use Rattle.std.specs.Prelude.{bit_or, ◌==◌, ◌&&◌, ◌||◌, ◌⊎◌, nat_lt, if◌then◌else◌, filter, option_map, unwrap_or}
use Rattle.std.specs.Int.{bit_at, w64}
use Rattle.std.proofs.lemmas.Bool.{cases_eq, eq-eqb, ne_eqb, lt-ltb, le-ltb, cond-true, cond-false}
use Rattle.std.proofs.lemmas.List.FromFn.{get_or-map-range_with_len, length-map-range_with_len}
use Rattle.std.proofs.lemmas.Nat.{or_lt}
use Rattle.std.proofs.lemmas.Nat.Bits.{bit_at_set_same, bit_at_set_other, bit_at_lowest, bit_at-suc}
use Rattle.dm_event.proofs.Components.{same_components}
use Rattle.dm_event.specs.Ascending.{with_key}
use Rattle.dm_event.specs.PartFields.{has_bit, bits_set, number_by, words_by}
use Rattle.dm_event.specs.Parts.{with_part, in_order}
use Rattle.dm_event.specs.declared.limits.TheConstants.{MAX_PARTS}

-- ---- the partitions of a list of bits

in_range : (a n p : ℕ) → a ≤ p → p < a + n → list_any (λ x. x == p) (range_with_len a n) ≡ true
in_range a zero p h l = absurd (omega arith)
in_range a (suc n) p h l = elim (cases_eq a p) [
  | inl e ↦ ap (λ (b : Bool). b || list_any (λ x. x == p) (range_with_len (a + 1) n)) (eq-eqb a p e)
  | inr d ↦ (ap (λ (b : Bool). b || list_any (λ x. x == p) (range_with_len (a + 1) n)) (ne_eqb a p d) ∙ in_range (a + 1) n p (omega (arith, d)) (omega arith))
]

-- what is among the elements that pass is among all, and passes
among_filter : (t : ℕ → Bool) (xs : List ℕ) (p : ℕ) → list_any (λ x. x == p) (filter t xs) ≡ (list_any (λ x. x == p) xs && t p)
among_filter t [] p = refl
among_filter t (x ∷ xs) p =
    let rest = among_filter t xs p in
    elim (cases_eq x p) [
      | inl e ↦ (here rest (t x) refl e ∙ sym (ap (λ (b : Bool). (b || list_any (λ y. y == p) xs) && t p) (eq-eqb x p e)))
      | inr d ↦ (there rest (t x) d ∙ sym (ap (λ (b : Bool). (b || list_any (λ y. y == p) xs) && t p) (ne_eqb x p d)))
    ]
  where
    fails_all : (b : Bool) → (b && false) ≡ false
    fails_all true = refl
    fails_all false = refl

    here : list_any (λ y. y == p) (filter t xs) ≡ (list_any (λ y. y == p) xs && t p) → (b : Bool) → t x ≡ b → x ≡ p
        → list_any (λ y. y == p) (cond b (x ∷ filter t xs) (filter t xs)) ≡ t p
    here rest true q e = ap (λ (c : Bool). c || list_any (λ y. y == p) (filter t xs)) (eq-eqb x p e) ∙ sym (sym (ap t e) ∙ q)
    here rest false q e =
        let fails : t p ≡ false = sym (ap t e) ∙ q in
        rest ∙ ap (λ (c : Bool). list_any (λ y. y == p) xs && c) fails ∙ fails_all (list_any (λ y. y == p) xs) ∙ sym fails

    there : list_any (λ y. y == p) (filter t xs) ≡ (list_any (λ y. y == p) xs && t p) → (b : Bool) → (x ≡ p → ⊥)
        → list_any (λ y. y == p) (cond b (x ∷ filter t xs) (filter t xs)) ≡ (list_any (λ y. y == p) xs && t p)
    there rest true d = ap (λ (c : Bool). c || list_any (λ y. y == p) (filter t xs)) (ne_eqb x p d) ∙ rest
    there rest false d = rest

-- a partition is among those whose bits are set where its bit is
pub among_bits : (words : List ℕ) (p : ℕ) → p < MAX_PARTS → list_any (λ x. x == p) (bits_set words) ≡ has_bit words p
unfolding bits_set
among_bits words p h =
    among_filter (has_bit words) (range_with_len 0 MAX_PARTS) p
    ∙ ap (λ (b : Bool). b && has_bit words p) (in_range 0 MAX_PARTS p (omega arith) (omega (arith, h)))

-- the same, of tests that agree in the range
filter_within : (s t : ℕ → Bool) (a n : ℕ) → ((q : ℕ) → a ≤ q → q < a + n → s q ≡ t q) → filter s (range_with_len a n) ≡ filter t (range_with_len a n)
filter_within s t a zero h = refl
filter_within s t a (suc n) h =
    ap₂ (λ (b : Bool) (rest : List ℕ). cond b (a ∷ rest) rest) (h a (omega arith) (omega arith))
    (filter_within s t (a + 1) n (λ q l m. h q (omega (arith, l)) (omega (arith, m))))

-- the partitions whose bits are set ascend
pub bits_ordered : (words : List ℕ) → bits_set words ≡ in_order (bits_set words)
unfolding bits_set
bits_ordered words =
    sym (filter_within (λ p. list_any (λ x. x == p) (bits_set words)) (has_bit words) 0 MAX_PARTS (λ q l m. among_bits words q (omega (arith, m))))

-- ---- one partition more

filter_same : (s t : ℕ → Bool) (a n : ℕ) → ((q : ℕ) → a ≤ q → s q ≡ t q) → filter s (range_with_len a n) ≡ filter t (range_with_len a n)
filter_same s t a zero h = refl
filter_same s t a (suc n) h =
    ap₂ (λ (b : Bool) (rest : List ℕ). cond b (a ∷ rest) rest) (h a (omega arith)) (filter_same s t (a + 1) n (λ q l. h q (omega (arith, l))))

pub with_below : (p x : ℕ) (xs : List ℕ) → x < p → with_part p (x ∷ xs) ≡ x ∷ with_part p xs
with_below p x xs h = ap (λ (o : Option (List ℕ)). unwrap_or o (x ∷ xs)) (cond-true (nat_lt x p) _ _ (lt-ltb x p h)) ∙ by_case (with_key p xs)
  where
    by_case : (o : Option (List ℕ)) → unwrap_or (option_map (λ more. x ∷ more) o) (x ∷ xs) ≡ x ∷ unwrap_or o xs
    by_case None = refl
    by_case (Some ys) = refl

pub with_same : (p : ℕ) (xs : List ℕ) → with_part p (p ∷ xs) ≡ p ∷ xs
with_same p xs =
    ap (λ (o : Option (List ℕ)). unwrap_or o (p ∷ xs)) (cond-false (nat_lt p p) _ _ (le-ltb p p (omega arith)) ∙ cond-true (p == p) _ _ (eq-eqb p p refl))

with_above : (p x : ℕ) (xs : List ℕ) → p < x → with_part p (x ∷ xs) ≡ p ∷ x ∷ xs
with_above p x xs h =
    ap (λ (o : Option (List ℕ)). unwrap_or o (x ∷ xs))
    (cond-false (nat_lt x p) _ _ (le-ltb x p (omega (arith, h))) ∙ cond-false (x == p) _ _ (ne_eqb x p (λ e. omega (arith, e, h))))

with_first : (t : ℕ → Bool) (p a n : ℕ) → p < a → with_part p (filter t (range_with_len a n)) ≡ p ∷ filter t (range_with_len a n)
with_first t p a zero h = refl
with_first t p a (suc n) h = by_test (t a) (with_first t p (a + 1) n (omega (arith, h)))
  where
    by_test : (b : Bool) → with_part p (filter t (range_with_len (a + 1) n)) ≡ p ∷ filter t (range_with_len (a + 1) n)
        → with_part p (cond b (a ∷ filter t (range_with_len (a + 1) n)) (filter t (range_with_len (a + 1) n))) ≡ p
        ∷ cond b (a ∷ filter t (range_with_len (a + 1) n)) (filter t (range_with_len (a + 1) n))
    by_test true rest = with_above p a (filter t (range_with_len (a + 1) n)) h
    by_test false rest = rest

-- where one number passes that did not, it stands at its place
filter_with : (s t : ℕ → Bool) (p a n : ℕ) → a ≤ p → p < a + n → s p ≡ true → ((q : ℕ) → q ≢ p → s q ≡ t q)
    → filter s (range_with_len a n) ≡ with_part p (filter t (range_with_len a n))
filter_with s t p a zero lo hi h same = absurd (omega (arith, lo, hi))
filter_with s t p a (suc n) lo hi h same = elim (cases_eq a p) [
  | inl e ↦
      (let rest : filter s (range_with_len (a + 1) n) ≡ filter t (range_with_len (a + 1) n) =
      filter_same s t (a + 1) n (λ q l. same q (λ f. omega (arith, f, e, l))) in
      ap₂ (λ (b : Bool) (xs : List ℕ). cond b (a ∷ xs) xs) (ap s e ∙ h) rest ∙ ap (λ (x : ℕ). x ∷ filter t (range_with_len (a + 1) n)) e ∙ sym (at_it e (t a)))
  | inr d ↦
      (ap₂ (λ (b : Bool) (xs : List ℕ). cond b (a ∷ xs) xs) (same a d) (filter_with s t p (a + 1) n (omega (arith, lo, d)) (omega (arith, hi)) h same)
      ∙ before (omega (arith, lo, d)) (t a))
]
  where
    at_it : a ≡ p → (b : Bool) → with_part p (cond b (a ∷ filter t (range_with_len (a + 1) n)) (filter t (range_with_len (a + 1) n))) ≡ p
        ∷ filter t (range_with_len (a + 1) n)
    at_it e true = ap (λ (x : ℕ). with_part p (x ∷ filter t (range_with_len (a + 1) n))) e ∙ with_same p (filter t (range_with_len (a + 1) n))
    at_it e false = with_first t p (a + 1) n (omega (arith, e))

    before : a < p → (b : Bool) → cond b (a ∷ with_part p (filter t (range_with_len (a + 1) n))) (with_part p (filter t (range_with_len (a + 1) n)))
        ≡ with_part p (cond b (a ∷ filter t (range_with_len (a + 1) n)) (filter t (range_with_len (a + 1) n)))
    before l true = sym (with_below p a (filter t (range_with_len (a + 1) n)) l)
    before l false = refl

-- the words with the partition's bit set
abbrev pub with_bit : List ℕ → ℕ → List ℕ
with_bit words p = set words (p / 64) (bit_or (get_or words (p / 64) 0) (1 * 2 ^ (p % 64) % 18446744073709551616))

bit_added : (words : List ℕ) (p : ℕ) → length words ≡ 4 → p < MAX_PARTS → has_bit (with_bit words p) p ≡ true
bit_added words p l h =
    let within : p / 64 < length words = omega (arith, l, h) in
    let below : p % 64 < 64 = omega arith in
    eq-eqb _ 1 (ap (λ (n : ℕ). bit_at n (p % 64)) (get_or-set_same words (p / 64) _ 0 within) ∙ bit_at_set_same w64 (get_or words (p / 64) 0) (p % 64) below)

other_bit : (p q : ℕ) → q ≢ p → q / 64 ≡ p / 64 → q % 64 ≢ p % 64
other_bit p q n e f = n (omega (arith, e, f))

others_stay : (words : List ℕ) (p : ℕ) → length words ≡ 4 → p < MAX_PARTS → (q : ℕ) → q ≢ p → has_bit (with_bit words p) q ≡ has_bit words q
others_stay words p l h q n =
    let within : p / 64 < length words = omega (arith, l, h) in
    let below : p % 64 < 64 = omega arith in
    ap (λ (b : ℕ). b == 1) (elim (cases_eq (q / 64) (p / 64)) [
      | inl e ↦ (ap (λ (i : ℕ). bit_at (get_or (with_bit words p) i 0) (q % 64)) e
          ∙ ap (λ (w : ℕ). bit_at w (q % 64)) (get_or-set_same words (p / 64) _ 0 within)
          ∙ bit_at_set_other w64 (get_or words (p / 64) 0) (p % 64) below (q % 64) (other_bit p q n e)
          ∙ ap (λ (i : ℕ). bit_at (get_or words i 0) (q % 64)) (sym e))
      | inr d ↦ ap (λ (w : ℕ). bit_at w (q % 64)) (get_or-set_other words (p / 64) (q / 64) _ 0 d)
    ])

pub part_added : (words : List ℕ) (p : ℕ) → length words ≡ 4 → p < MAX_PARTS → bits_set (with_bit words p) ≡ with_part p (bits_set words)
unfolding bits_set
part_added words p l h =
    filter_with (has_bit (with_bit words p)) (has_bit words) p 0 MAX_PARTS (omega arith) (omega (arith, h)) (bit_added words p l h) (others_stay words p l h)

-- ---- a number from its bits

number_same : (s t : ℕ → Bool) (n : ℕ) → ((b : ℕ) → b < n → s b ≡ t b) → number_by s n ≡ number_by t n
number_same s t zero h = refl
number_same s t (suc n) h =
    ap₂ (λ (b : Bool) (m : ℕ). (if b then 1 else 0) + 2 * m) (h 0 (omega arith))
    (number_same (λ b. s (suc b)) (λ b. t (suc b)) n (λ b l. h (suc b) (omega (arith, l))))

pub number_small : (bit : ℕ → Bool) (n : ℕ) → number_by bit n < 2 ^ n
number_small bit zero = omega arith
number_small bit (suc n) = let rest = number_small (λ b. bit (suc b)) n in by_bit (bit 0) rest
  where
    by_bit : (b : Bool) → number_by (λ b. bit (suc b)) n < 2 ^ n → (if b then 1 else 0) + 2 * number_by (λ b. bit (suc b)) n < 2 ^ suc n
    by_bit true rest = omega (arith, rest)
    by_bit false rest = omega (arith, rest)

number_of_bits : (n w : ℕ) → w < 2 ^ n → number_by (λ b. bit_at w b == 1) n ≡ w
number_of_bits zero w h = omega (arith, h)
number_of_bits (suc n) w h =
    let small : w / 2 < 2 ^ n = omega (arith, h) in
    let rest : number_by (λ b. bit_at w (suc b) == 1) n ≡ w / 2 =
    number_same (λ b. bit_at w (suc b) == 1) (λ b. bit_at (w / 2) b == 1) n (λ b l. ap (λ (x : ℕ). x == 1) (bit_at-suc w b))
    ∙ number_of_bits n (w / 2) small in
    let lowest : (if bit_at w 0 == 1 then 1 else 0) ≡ w % 2 = ap (λ (x : ℕ). if x == 1 then 1 else 0) (bit_at_lowest w) ∙ one_or_none (w % 2) (omega arith) in
    omega (arith, rest, lowest)
  where
    one_or_none : (x : ℕ) → x < 2 → (if x == 1 then 1 else 0) ≡ x
    one_or_none zero l = refl
    one_or_none (suc zero) l = refl
    one_or_none (suc (suc x)) l = absurd (omega (arith, l))

abbrev word_of : List ℕ → ℕ → ℕ
word_of parts k = number_by (λ b. list_any (λ part. part == 64 * k + b) parts) 64

-- words of 64 bits have no bits but those of their partitions
pub words_again : (words : List ℕ) → length words ≡ 4 → ((k : ℕ) → k < 4 → get_or words k 0 < 2 ^ 64) → words ≡ words_by (bits_set words)
unfolding words_by
words_again words l fits =
    same_components words (words_by (bits_set words)) (l ∙ sym (length-map-range_with_len (word_of (bits_set words)) 0 4))
    (λ k m. at_word k (omega (arith, m, l)))
  where
    same_bit : (k b : ℕ) → k < 4 → b < 64 → (bit_at (get_or words k 0) b == 1) ≡ list_any (λ part. part == 64 * k + b) (bits_set words)
    same_bit k b h m =
        let part : (64 * k + b) / 64 ≡ k = omega (arith, m) in
        let place : (64 * k + b) % 64 ≡ b = omega (arith, m) in
        sym (among_bits words (64 * k + b) (omega (arith, h, m)) ∙ ap₂ (λ (i j : ℕ). bit_at (get_or words i 0) j == 1) part place)

    at_word : (k : ℕ) → k < 4 → get_or words k 0 ≡ get_or (words_by (bits_set words)) k 0
    at_word k h =
        sym (number_of_bits 64 (get_or words k 0) (fits k h))
        ∙ number_same (λ b. bit_at (get_or words k 0) b == 1) (λ b. list_any (λ part. part == 64 * k + b) (bits_set words)) 64 (λ b m. same_bit k b h m)
        ∙ sym (get_or-map-range_with_len (word_of (bits_set words)) 0 4 k k 0 h (omega arith))

-- words that are those of a list fit
pub words_fit : (words parts : List ℕ) → words ≡ words_by parts → (length words ≡ 4) × ((k : ℕ) → k < 4 → get_or words k 0 < 2 ^ 64)
unfolding words_by
words_fit words parts e = (
  ap (λ (l : List ℕ). length l) e,
  λ k h. (let is : get_or words k 0 ≡ number_by (λ b. list_any (λ part. part == 64 * k + b) parts) 64 =
      ap (λ (l : List ℕ). get_or l k 0) e ∙ get_or-map-range_with_len (λ k. number_by (λ b. list_any (λ part. part == 64 * k + b) parts) 64) 0 4 k k 0 h
      (omega arith) in
      let small = number_small (λ b. list_any (λ part. part == 64 * k + b) parts) 64 in
      omega (arith, is, small)),
)

-- a bit more fits
pub with_bit_fits : (words : List ℕ) (p : ℕ) → length words ≡ 4 → p < MAX_PARTS → ((k : ℕ) → k < 4 → get_or words k 0 < 2 ^ 64)
    → (length (with_bit words p) ≡ 4) × ((k : ℕ) → k < 4 → get_or (with_bit words p) k 0 < 2 ^ 64)
with_bit_fits words p l h fits = (length-set words (p / 64) _ ∙ l, λ k m. at_word k m (cases_eq k (p / 64)))
  where
    small : 1 * 2 ^ (p % 64) % 18446744073709551616 < 2 ^ 64
    small = omega arith

    at_word : (k : ℕ) → k < 4 → (k ≡ p / 64) ⊎ (k ≡ p / 64 → ⊥) → get_or (with_bit words p) k 0 < 2 ^ 64
    at_word k m (inl e) =
        let is : get_or (with_bit words p) k 0 ≡ bit_or (get_or words (p / 64) 0) (1 * 2 ^ (p % 64) % 18446744073709551616) =
        ap (λ (i : ℕ). get_or (with_bit words p) i 0) e ∙ get_or-set_same words (p / 64) _ 0 (omega (arith, l, m, e)) in
        let fit = or_lt 64 (get_or words (p / 64) 0) (1 * 2 ^ (p % 64) % 18446744073709551616) (fits (p / 64) (omega (arith, m, e))) small in
        omega (arith, is, fit)
    at_word k m (inr d) =
        let is : get_or (with_bit words p) k 0 ≡ get_or words k 0 = get_or-set_other words (p / 64) k _ 0 d in
        let fit = fits k m in
        omega (arith, is, fit)
