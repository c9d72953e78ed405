-- A score from its parts.
use Rattle.std.proofs.Common.{ℕ, ◌+◌, ◌-◌, ◌^◌, ◌<◌, ◌≤◌, ◌≡◌, List, length, get_or, set, sym, ap, ◌∙◌, arith, inl, inr, subst, get_or-set_same}
use Rattle.std.proofs.Common.{get_or-set_other}
use Rattle.std.specs.Prelude.{ℤ, pos, negsuc, nat_abs, ◌≤ℤ◌, ◌+ℤ◌, ◌-ℤ◌, ◌*ℤ◌}
use Rattle.std.proofs.lemmas.Bool.{cases_eq}
use Rattle.std.proofs.lemmas.Int.{ints}
use Rattle.dm_event.specs.declared.schema.Weights.{Weights}
use Rattle.dm_model.specs.Scores.{uneven, moved_to, lag, together, score_of}

-- the weighted sum
abbrev pub summed : Weights → ℕ → ℕ → ℕ → ℕ → ℤ
summed weights now there behind beside =
    ((pos weights.balance *ℤ (pos now -ℤ pos there)) -ℤ (pos weights.delay *ℤ pos behind)) +ℤ (pos weights.together *ℤ pos beside)

pub one_score : (weights : Weights) (sites parts : ℕ) (sets : List (List ℕ)) (home_of : ℕ → ℕ) (vector_of : ℕ → List ℕ) (wanted : List ℕ)
    (site now there behind beside : ℕ) (score : ℤ)
    → score ≡ summed weights now there behind beside
    → now ≡ uneven sites parts sets home_of
    → there ≡ uneven sites parts sets (moved_to sites parts sets home_of wanted site)
    → behind ≡ lag sites home_of vector_of wanted site
    → beside ≡ together sets home_of wanted site
    → score ≡ score_of weights sites parts sets home_of vector_of wanted site
one_score weights sites parts sets home_of vector_of wanted site now there behind beside score is a b c d =
    is
    ∙ ap (λ (n : ℕ). summed weights n there behind beside) a
    ∙ ap (λ (n : ℕ). summed weights (uneven sites parts sets home_of) n behind beside) b
    ∙ ap (λ (n : ℕ). summed weights (uneven sites parts sets home_of) (uneven sites parts sets (moved_to sites parts sets home_of wanted site)) n beside) c
    ∙ ap (λ (n : ℕ). summed weights (uneven sites parts sets home_of) (uneven sites parts sets (moved_to sites parts sets home_of wanted site))
    (lag sites home_of vector_of wanted site) n) d

-- ---- how large a score is

-- the bounds of a score
abbrev pub IsSmall : ℤ → Type 0
IsSmall z = (negsuc (2 ^ 99 - 2) ≤ℤ z) × (z ≤ℤ pos (2 ^ 56))

pub small_size : (z : ℤ) → IsSmall z → nat_abs z < 2 ^ 99
small_size (pos n) h = omega (arith, ints, h.1)
small_size (negsuc n) h = omega (arith, ints, h.0)

-- ---- scores written one after another

pub write_next : (scores : List ℤ) (i : ℕ) (v : ℤ) (f : ℕ → ℤ) → i < length scores → v ≡ f (i + 1) → ((k : ℕ) → k < i → get_or scores k (pos 0) ≡ f (k + 1))
    → (k : ℕ) → k < i + 1 → get_or (set scores i v) k (pos 0) ≡ f (k + 1)
write_next scores i v f l is before k h = elim (cases_eq k i) [
  | inl e ↦ (ap (λ (j : ℕ). get_or (set scores i v) j (pos 0)) e ∙ get_or-set_same scores i v (pos 0) l ∙ is ∙ ap (λ (j : ℕ). f (j + 1)) (sym e))
  | inr d ↦ (get_or-set_other scores i k v (pos 0) d ∙ before k (omega (arith, d)))
]

pub write_past : (scores : List ℤ) (i : ℕ) (v : ℤ) → ((k : ℕ) → i ≤ k → get_or scores k (pos 0) ≡ pos 0) → (k : ℕ) → i + 1 ≤ k
    → get_or (set scores i v) k (pos 0) ≡ pos 0
write_past scores i v past k h = get_or-set_other scores i k v (pos 0) (λ e. omega (arith, e, h)) ∙ past k (omega arith)

-- what holds of each number that stands there, and of the one that is written, holds of each
pub write_keeps : (P : ℤ → Type 0) (scores : List ℤ) (i : ℕ) (v : ℤ) → i < length scores → P v → ((k : ℕ) → P (get_or scores k (pos 0))) → (k : ℕ)
    → P (get_or (set scores i v) k (pos 0))
write_keeps P scores i v l h all k = elim (cases_eq k i) [
  | inl e ↦ subst P (sym (ap (λ (j : ℕ). get_or (set scores i v) j (pos 0)) e ∙ get_or-set_same scores i v (pos 0) l)) h
  | inr d ↦ subst P (sym (get_or-set_other scores i k v (pos 0) d)) (all k)
]
