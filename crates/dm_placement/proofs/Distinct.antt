-- The set of the partitions of ascending keys, put in one after another.
use Rattle.std.proofs.Common.{ℕ, suc, ◌+◌, ◌*◌, ◌/◌, ◌<◌, ◌≤◌, ◌≡◌, Bool, true, false, cond, List, [], ◌∷◌, ◌++◌, get_or}
use Rattle.std.proofs.Common.{refl, sym}
use Rattle.std.proofs.Common.{ap, ◌∙◌, arith, inl, inr, subst}
use Rattle.std.specs.List.Sorted.{IsStrictlyIncreasing}
use Rattle.std.specs.Prelude.{◌==◌, ◌||◌, ◌⊎◌}
use Rattle.std.proofs.Math.Nat.{div-lt_iff_lt-mul, div-zero}
use Rattle.std.proofs.lemmas.Bool.{cases_eq, cases_lt, eq-eqb, ne_eqb}
use Rattle.std.proofs.lemmas.List.{map-append}
use Rattle.dm_event.proofs.Bits.{with_below, with_same}
use Rattle.dm_event.specs.Layout.{Layout}
use Rattle.dm_event.specs.Parts.{with_part}
use Rattle.dm_model.specs.Choices.{distinct, parts_in_order, parts_of}
use Rattle.dm_model.specs.Tests.{is_among}

pub among_distinct : (xs : List ℕ) (p : ℕ) → is_among (distinct xs) p ≡ is_among xs p
among_distinct [] p = refl
among_distinct (x ∷ xs) p = at_head (is_among xs x) refl (among_distinct xs p) (cases_eq x p)
  where
    at_head : (b : Bool) → is_among xs x ≡ b → is_among (distinct xs) p ≡ is_among xs p → (x ≡ p) ⊎ (x ≡ p → ⊥)
        → is_among (cond b (distinct xs) (x ∷ distinct xs)) p ≡ is_among (x ∷ xs) p
    at_head false e rest same = ap (λ (c : Bool). (x == p) || c) rest
    at_head true e rest (inl q) = rest ∙ sym (ap (is_among xs) q) ∙ e ∙ sym (ap (λ (c : Bool). c || is_among xs p) (eq-eqb x p q))
    at_head true e rest (inr d) = rest ∙ sym (ap (λ (c : Bool). c || is_among xs p) (ne_eqb x p d))

-- none is above the next one, nor the last one above p
abbrev Climbs : List ℕ → ℕ → Type 0
Climbs [] p = Unit {0}
Climbs (x ∷ []) p = x ≤ p
Climbs (x ∷ (y ∷ ys)) p = (x ≤ y) × Climbs (y ∷ ys) p

rest_climbs : (x : ℕ) (xs : List ℕ) (p : ℕ) → Climbs (x ∷ xs) p → Climbs xs p
rest_climbs x [] p c = tt
rest_climbs x (y ∷ ys) p c = c.1

first_below : (x : ℕ) (xs : List ℕ) (p : ℕ) → Climbs (x ∷ xs) p → x ≤ p
first_below x [] p c = c
first_below x (y ∷ ys) p c = let rest = first_below y ys p c.1 in omega (arith, c.0, rest)

-- what is as great as the last one stands there again, if anything follows
again : (p : ℕ) (xs : List ℕ) → Climbs (p ∷ xs) p → is_among xs p ≡ false → xs ≡ []
again p [] c none = refl
again p (y ∷ ys) c none =
    let below = first_below y ys p c.1 in
    absurd (let yes : (y == p) ≡ true = eq-eqb y p (omega (arith, c.0, below)) in cc (none, ap (λ (b : Bool). b || is_among ys p) yes))

among_last : (xs : List ℕ) (p : ℕ) → is_among (xs ++ p ∷ []) p ≡ true
among_last [] p = ap (λ (b : Bool). b || false) (eq-eqb p p refl)
among_last (x ∷ xs) p = ap (λ (b : Bool). (x == p) || b) (among_last xs p) ∙ either (x == p)
  where
    either : (b : Bool) → (b || true) ≡ true
    either true = refl
    either false = refl

among_before : (xs : List ℕ) (p x : ℕ) → (p ≡ x → ⊥) → is_among (xs ++ p ∷ []) x ≡ is_among xs x
among_before [] p x d = ap (λ (b : Bool). b || false) (ne_eqb p x d)
among_before (y ∷ xs) p x d = ap (λ (b : Bool). (y == x) || b) (among_before xs p x d)

-- one more that none is above
pub distinct_more : (xs : List ℕ) (p : ℕ) → Climbs xs p → with_part p (distinct xs) ≡ distinct (xs ++ p ∷ [])
distinct_more [] p c = refl
distinct_more (x ∷ xs) p c =
    let rest = distinct_more xs p (rest_climbs x xs p c) in
    elim (cases_eq x p) [
      | inl e ↦ (at_last e rest (is_among xs x) refl ∙ there e)
      | inr d ↦ (before d rest (is_among xs x)
          ∙ ap (λ (b : Bool). cond b (distinct (xs ++ p ∷ [])) (x ∷ distinct (xs ++ p ∷ []))) (sym (among_before xs p x (λ e. d (sym e)))))
    ]
  where
    before : (x ≡ p → ⊥) → with_part p (distinct xs) ≡ distinct (xs ++ p ∷ []) → (b : Bool)
        → with_part p (cond b (distinct xs) (x ∷ distinct xs)) ≡ cond b (distinct (xs ++ p ∷ [])) (x ∷ distinct (xs ++ p ∷ []))
    before d rest true = rest
    before d rest false =
        with_below p x (distinct xs) (let below = first_below x xs p c in omega (arith, below, d)) ∙ ap (λ (l : List ℕ). x ∷ l) rest

    there : x ≡ p → distinct (xs ++ p ∷ []) ≡ distinct ((x ∷ xs) ++ p ∷ [])
    there e = sym (ap (λ (b : Bool). cond b (distinct (xs ++ p ∷ [])) (x ∷ distinct (xs ++ p ∷ [])))
        (ap (λ (y : ℕ). is_among (xs ++ p ∷ []) y) e ∙ among_last xs p))

    alone : x ≡ p → (ys : List ℕ) → ys ≡ [] → with_part p (x ∷ distinct ys) ≡ with_part p (distinct ys)
    alone e [] f = ap (λ (y : ℕ). with_part p (y ∷ [])) e ∙ with_same p []
    alone e (y ∷ ys) f = absurd (cc (f))

    at_last : x ≡ p → with_part p (distinct xs) ≡ distinct (xs ++ p ∷ []) → (b : Bool) → is_among xs x ≡ b
        → with_part p (cond b (distinct xs) (x ∷ distinct xs)) ≡ distinct (xs ++ p ∷ [])
    at_last e rest true f = rest
    at_last e rest false f = alone e xs (again x xs (subst (λ (q : ℕ). Climbs (x ∷ xs) q) (sym e) c) f) ∙ rest

div_less : (m n k : ℕ) → m ≤ n → m / k ≤ n / k
div_less m n k h = elim (cases_lt 0 k) [
  | inl wide ↦ (let more : n < (n / k + 1) * k = (div-lt_iff_lt-mul wide).0 (omega arith) in
      let less : m / k < n / k + 1 = (div-lt_iff_lt-mul wide).1 (omega (arith, h, more)) in omega (arith, less))
  | inr none ↦ (let e : k ≡ 0 = omega (arith, none) in
      let l : m / k ≡ 0 = ap (λ (i : ℕ). m / i) e ∙ div-zero m in omega (arith, l))
]

parts_climb : (layout : Layout) (keys : List ℕ) (key : ℕ) → IsStrictlyIncreasing (keys ++ key ∷ []) → Climbs (parts_in_order layout keys) (key / layout.width)
parts_climb layout [] key h = tt
parts_climb layout (x ∷ []) key h = let less : x < key = h 0 (omega arith) in div_less x key layout.width (omega (arith, less))
parts_climb layout (x ∷ (y ∷ ys)) key h = (
  let less : x < y = h 0 (omega arith) in div_less x y layout.width (omega (arith, less)),
  parts_climb layout (y ∷ ys) key (λ k l. subst (λ (i : ℕ). get_or (y ∷ (ys ++ key ∷ [])) k 0 < get_or (x ∷ y ∷ (ys ++ key ∷ [])) i 0)
      (let e : suc k + 1 ≡ suc (k + 1) = omega arith in e) (h (suc k) (omega (arith, l)))),
)

-- the partition of one key more, above all others
pub part_more : (layout : Layout) (keys : List ℕ) (key : ℕ) → IsStrictlyIncreasing (keys ++ key ∷ [])
    → with_part (key / layout.width) (parts_of layout keys) ≡ parts_of layout (keys ++ key ∷ [])
part_more layout keys key h =
    distinct_more (parts_in_order layout keys) (key / layout.width) (parts_climb layout keys key h)
    ∙ ap distinct (sym (map-append (λ k. k / layout.width) keys (key ∷ [])))
