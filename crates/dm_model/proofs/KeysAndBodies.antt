-- Sets of keys, and what a body writes.
use Rattle.std.proofs.Common.{ℕ, ℤ, ◌≡◌, Bool, true, false, not, ◌==◌, nat_lt, if◌then◌else◌, List, [], ◌∷◌, None, map, refl, sym, ap, ◌∙◌, subst, inl, inr}
use Rattle.std.proofs.Common.{◌⊎◌}
use Rattle.std.proofs.lemmas.Bool.{eqb-true, eq-eqb, false≢true, or_cases, or_left, or_right}
use Rattle.std.specs.List.{AllByRecursion as Each, list_any}
use Rattle.std.specs.Prelude.{filter_map}
use Rattle.dm_event.specs.declared.step.Op.{Op}
use Rattle.dm_event.specs.declared.step.Op.TheVariants.{Read, Write, Add}
use Rattle.dm_event.specs.declared.step.Pair.{Pair}
use Rattle.dm_model.proofs.ListFacts.{find_none}
use Rattle.dm_model.specs.Allowed.{common_key}
use Rattle.dm_model.specs.Bodies.{put, body, run_from, after_op, Ran, written_key, first_undeclared}
use Rattle.dm_model.specs.Tests.{is_among}

pub each_among : (P : ℕ → Type 0) (xs : List ℕ) (x : ℕ) → Each P xs → is_among xs x ≡ true → P x
each_among P [] x h m = absurd (false≢true m)
each_among P (y ∷ ys) x h m = elim (or_cases (y == x) (is_among ys x) m) [ inl e ↦ subst P (eqb-true y x e) h.0 | inr n ↦ each_among P ys x h.1 n ]

pub among_map : (f : ℕ → ℕ) (xs : List ℕ) (x : ℕ) → is_among xs x ≡ true → is_among (map f xs) (f x) ≡ true
among_map f [] x m = absurd (false≢true m)
among_map f (y ∷ ys) x m = elim (or_cases (y == x) (is_among ys x) m) [
  | inl e ↦ or_left (f y == f x) _ (eq-eqb (f y) (f x) (ap f (eqb-true y x e)))
  | inr n ↦ or_right (f y == f x) _ (among_map f ys x n)
]

pub each_unmap : (P : ℕ → Type 0) (f : ℕ → ℕ) (xs : List ℕ) → Each P (map f xs) → Each (λ x. P (f x)) xs
each_unmap P f [] h = tt
each_unmap P f (x ∷ xs) h = (h.0, each_unmap P f xs h.1)

pub no_common : (keys others : List ℕ) → common_key keys others ≡ None → (key : ℕ) → is_among keys key ≡ true → is_among others key ≡ true → ⊥
no_common keys others h key m n = false≢true (sym (each_among (λ k. is_among others k ≡ false) keys key (find_none (is_among others) keys h) m) ∙ n)

abbrev pub has_key : List Pair → ℕ → Bool
has_key ps key = list_any (λ p. p.key == key) ps

has_put : (ps : List Pair) (k : ℕ) (v : ℤ) (key : ℕ) → has_key (put ps k v) key ≡ true → (k ≡ key) ⊎ (has_key ps key ≡ true)
has_put [] k v key h = elim (or_cases (k == key) false h) [ inl q ↦ inl (eqb-true k key q) | inr q ↦ absurd (false≢true q) ]
has_put (p ∷ ps) k v key h = by_test (has_put ps k v key) (nat_lt p.key k) (p.key == k) refl h
  where
    by_test : (has_key (put ps k v) key ≡ true → (k ≡ key) ⊎ (has_key ps key ≡ true)) → (a b : Bool) → (p.key == k) ≡ b
        → has_key (if a then p ∷ put ps k v else (if b then record { key = k; value = v } ∷ ps else record { key = k; value = v } ∷ (p ∷ ps))) key ≡ true
        → (k ≡ key) ⊎ (has_key (p ∷ ps) key ≡ true)
    by_test rest true b e g = elim (or_cases (p.key == key) (has_key (put ps k v) key) g) [
      | inl q ↦ inr (or_left (p.key == key) _ q)
      | inr q ↦ elim (rest q) [ inl r ↦ inl r | inr r ↦ inr (or_right (p.key == key) _ r) ]
    ]
    by_test rest false true e g = elim (or_cases (k == key) (has_key ps key) g) [ inl q ↦ inl (eqb-true k key q) | inr q ↦ inr (or_right (p.key == key) _ q) ]
    by_test rest false false e g = elim (or_cases (k == key) (has_key (p ∷ ps) key) g) [ inl q ↦ inl (eqb-true k key q) | inr q ↦ inr q ]

run_writes : (f : ℕ → ℤ) (ran : Ran) (ops : List Op) (key : ℕ) → has_key (run_from f ran ops).writes key ≡ true → (has_key ran.writes key ≡ true)
    ⊎ (is_among (filter_map written_key ops) key ≡ true)
run_writes f ran [] key h = inl h
run_writes f ran (Read k ∷ ops) key h = run_writes f (after_op f ran (Read k)) ops key h
run_writes f ran (Write k v ∷ ops) key h = elim (run_writes f (after_op f ran (Write k v)) ops key h) [
  | inl p ↦ elim (has_put ran.writes k v key p) [ inl e ↦ inr (or_left (k == key) _ (eq-eqb k key e)) | inr q ↦ inl q ]
  | inr q ↦ inr (or_right (k == key) _ q)
]
run_writes f ran (Add k b ∷ ops) key h = elim (run_writes f (after_op f ran (Add k b)) ops key h) [
  | inl p ↦ elim (has_put ran.writes k _ key p) [ inl e ↦ inr (or_left (k == key) _ (eq-eqb k key e)) | inr q ↦ inl q ]
  | inr q ↦ inr (or_right (k == key) _ q)
]

pub body_writes : (f : ℕ → ℤ) (ops : List Op) (key : ℕ) → has_key (body ops f).writes key ≡ true → is_among (filter_map written_key ops) key ≡ true
body_writes f ops key h = elim (run_writes f (record { reads = []; writes = [] }) ops key h) [ inl p ↦ absurd (false≢true p) | inr q ↦ q ]

pub all_declared : (keys : List ℕ) (ops : List Op) → first_undeclared keys ops ≡ None → (key : ℕ) → is_among (filter_map written_key ops) key ≡ true
    → is_among keys key ≡ true
all_declared keys ops h key m = by_not (is_among keys key) (each_among (λ k. not (is_among keys k) ≡ false) (filter_map written_key ops) key
    (find_none (λ k. not (is_among keys k)) (filter_map written_key ops) h) m)
  where
    by_not : (b : Bool) → not b ≡ false → b ≡ true
    by_not true e = refl
    by_not false e = absurd (false≢true (sym e))
