-- The least site of greatest score.
use Rattle.std.proofs.Common.{ℕ, zero, suc, ◌+◌, ◌-◌, ◌^◌, ◌<◌, ◌≤◌, ◌≡◌, Bool, true, false, cond, List, get_or, refl, sym, ap, ap₂, ◌∙◌, arith, inl, inr}
use Rattle.std.proofs.Common.{subst}
use Rattle.std.specs.List.{range_with_len}
use Rattle.std.specs.Prelude.{ℤ, pos, negsuc, nat_abs, ◌<ℤ◌, ◌≤ℤ◌, int_lt, ◌⊎◌}
use Rattle.std.proofs.lemmas.Bool.{cases_eq}
use Rattle.std.proofs.lemmas.Int.{ints, to_z-of_z}
use mir.Syntax.{w128}
use mir.Val.{SFits, to_z, of_z}
use Rattle.dm_event.specs.Vectors.{sites_to}
use Rattle.dm_model.specs.Scores.{best_site}

less : (x y : ℤ) → int_lt x y ≡ true → x <ℤ y
less x y h = grind (arith, ints)

not_less : (x y : ℤ) → int_lt x y ≡ false → y ≤ℤ x
not_less x y h = grind (arith, ints)

-- the site r is the least of greatest score among b and the sites from a on
record Leads (f : ℕ → ℤ) (a n b r : ℕ) : Type 0 where
  one : (r ≡ b) ⊎ ((a ≤ r) × (r < a + n))
  greatest : (s : ℕ) → a ≤ s → s < a + n → f s ≤ℤ f r
  least : (s : ℕ) → a ≤ s → s < a + n → s < r → f s <ℤ f r
  best : f b ≤ℤ f r
  better : (b ≡ r → ⊥) → f b <ℤ f r

leads_higher : (f : ℕ → ℤ) (a n b r : ℕ) → Leads f a (suc n) b r → f b <ℤ f a → Leads f (a + 1) n a r
leads_higher f a n b r l h = record {
  one = elim l.one [
    | inl e ↦ absurd (let g = l.greatest a (omega arith) (omega arith) in let same : f r ≡ f b = ap f e in omega (arith, ints, g, same, h))
    | inr p ↦ elim (cases_eq r a) [ inl e ↦ inl e | inr d ↦ inr (omega (arith, p, d), omega (arith, p)) ]
  ];
  greatest = λ s x y. l.greatest s (omega (arith, x)) (omega (arith, y));
  least = λ s x y z. l.least s (omega (arith, x)) (omega (arith, y)) z;
  best = l.greatest a (omega arith) (omega arith);
  better = λ d. elim l.one [
    | inl e ↦ absurd (let g = l.greatest a (omega arith) (omega arith) in let same : f r ≡ f b = ap f e in omega (arith, ints, g, same, h))
    | inr p ↦ l.least a (omega arith) (omega arith) (omega (arith, p, d))
  ];
}

leads_lower : (f : ℕ → ℤ) (a n b r : ℕ) → Leads f a (suc n) b r → f a ≤ℤ f b → Leads f (a + 1) n b r
leads_lower f a n b r l h = record {
  one = elim (cases_eq r b) [
    | inl e ↦ inl e
    | inr d ↦ elim l.one [
      | inl e ↦ inl e
      | inr p ↦ elim (cases_eq r a) [
        | inl e ↦ absurd (let g = l.better (λ q. d (sym q)) in let same : f r ≡ f a = ap f e in omega (arith, ints, g, same, h))
        | inr q ↦ inr (omega (arith, p, q), omega (arith, p))
      ]
    ]
  ];
  greatest = λ s x y. l.greatest s (omega (arith, x)) (omega (arith, y));
  least = λ s x y z. l.least s (omega (arith, x)) (omega (arith, y)) z;
  best = l.best;
  better = l.better;
}

leader : (f : ℕ → ℤ) (a n b r : ℕ) → Leads f a n b r → best_site f (range_with_len a n) b ≡ r
leader f a zero b r l = elim l.one [ inl e ↦ sym e | inr p ↦ absurd (omega (arith, p)) ]
leader f a (suc n) b r l = at_head (int_lt (f b) (f a)) refl (λ h. leader f (a + 1) n a r (leads_higher f a n b r l h))
    (λ h. leader f (a + 1) n b r (leads_lower f a n b r l h))
  where
    at_head : (c : Bool) → int_lt (f b) (f a) ≡ c → (f b <ℤ f a → best_site f (range_with_len (a + 1) n) a ≡ r)
        → (f a ≤ℤ f b → best_site f (range_with_len (a + 1) n) b ≡ r)
        → best_site f (range_with_len (a + 1) n) (cond c a b) ≡ r
    at_head true e higher lower = higher (less (f b) (f a) e)
    at_head false e higher lower = lower (not_less (f b) (f a) e)

-- what is the least site of greatest score is the one chosen
pub chosen : (f : ℕ → ℤ) (sites r : ℕ) → 1 ≤ r → r ≤ sites → ((s : ℕ) → 1 ≤ s → s ≤ sites → f s ≤ℤ f r) → ((s : ℕ) → 1 ≤ s → s < r → f s <ℤ f r)
    → best_site f (sites_to sites) 1 ≡ r
chosen f sites r lo hi greatest least = leader f 1 sites 1 r (record {
  one = inr (lo, omega arith);
  greatest = λ s x y. greatest s x (omega (arith, y));
  least = λ s x y z. least s x z;
  best = greatest 1 (omega arith) (omega arith);
  better = λ d. least 1 (omega arith) (omega (arith, d));
})

-- ---- one score after another

pub same_le : (x y a b : ℤ) → x ≡ a → y ≡ b → x ≤ℤ y → a ≤ℤ b
same_le x y a b p q h = subst (λ (z : ℤ). a ≤ℤ z) q (subst (λ (z : ℤ). z ≤ℤ y) p h)

pub same_lt : (x y a b : ℤ) → x ≡ a → y ≡ b → x <ℤ y → a <ℤ b
same_lt x y a b p q h = subst (λ (z : ℤ). a <ℤ z) q (subst (λ (z : ℤ). z <ℤ y) p h)

pub le_lt : (x y z : ℤ) → x ≤ℤ y → y <ℤ z → x <ℤ z
le_lt x y z h g = omega (arith, ints)

pub lt_le : (x y : ℤ) → x <ℤ y → x ≤ℤ y
lt_le x y h = omega (arith, ints)

pub le_self : (x : ℤ) → x ≤ℤ x
le_self x = omega (arith, ints)

-- scores as they are read
pub read_lt : (x y : ℤ) → SFits w128 x → SFits w128 y → int_lt (to_z w128 (of_z w128 x)) (to_z w128 (of_z w128 y)) ≡ true → x <ℤ y
read_lt x y p q h = less x y (sym (ap₂ (λ (a b : ℤ). int_lt a b) (to_z-of_z w128 x p) (to_z-of_z w128 y q)) ∙ h)

pub read_le : (x y : ℤ) → SFits w128 x → SFits w128 y → int_lt (to_z w128 (of_z w128 x)) (to_z w128 (of_z w128 y)) ≡ false → y ≤ℤ x
read_le x y p q h = not_less x y (sym (ap₂ (λ (a b : ℤ). int_lt a b) (to_z-of_z w128 x p) (to_z-of_z w128 y q)) ∙ h)

small_fits : (x : ℤ) → nat_abs x < 2 ^ 99 → SFits w128 x
small_fits (pos n) h = omega (arith, ints, h)
small_fits (negsuc n) h = omega (arith, ints, h)

pub score_fits : (scores : List ℤ) → ((site : ℕ) → nat_abs (get_or scores (site - 1) (pos 0)) < 2 ^ 99) → (k : ℕ) → SFits w128 (get_or scores k (pos 0))
score_fits scores small k =
    subst (λ (i : ℕ). SFits w128 (get_or scores i (pos 0))) (let e : k + 1 - 1 ≡ k = omega arith in e)
    (small_fits (get_or scores (k + 1 - 1) (pos 0)) (small (k + 1)))
