-- The steps of a list up to a place, the latest first.
use Rattle.std.proofs.Common.{ℕ, zero, suc, ◌+◌, ◌<◌, ◌≤◌, ◌≡◌, List, [], ◌∷◌, length, take, drop, get_or, refl, ap, sym, ◌∙◌, subst, arith}
use Rattle.std.specs.Prelude.{reverse}
use Rattle.std.proofs.lemmas.List.{take-append-drop}
use Rattle.dm_event.proofs.Backwards.{past_more}
use Rattle.dm_event.specs.declared.step.Step.{Step}
use Rattle.dm_event.specs.Layout.{Layout}
use Rattle.dm_model.specs.Allowed.{Allowed}
use Rattle.dm_model.specs.Legal.{Legal, LegalPast}
use Rattle.dm_model.proofs.Histories.{legal_prefix}

take_all : {X : Type 0} (xs : List X) (i : ℕ) → length xs ≤ i → take i xs ≡ xs
take_all [] zero h = refl
take_all [] (suc i) h = refl
take_all (x ∷ xs) zero h = absurd (omega (arith, h))
take_all {X = X} (x ∷ xs) (suc i) h = ap (λ (l : List X). x ∷ l) (take_all xs i (omega (arith, h)))

-- after all steps it is the whole list
pub past_whole : {X : Type 0} (xs : List X) (i : ℕ) → length xs ≤ i → reverse (take i xs) ≡ reverse xs
past_whole {X = X} xs i h = ap (λ (l : List X). reverse l) (take_all xs i h)

-- the steps up to a place are legal where all are
pub legal_front : (layout : Layout) (steps : List Step) (i : ℕ) → Legal layout steps → Legal layout (take i steps)
legal_front layout steps i h = legal_prefix layout (take i steps) (drop i steps) (subst (λ (l : List Step). Legal layout l) (sym (take-append-drop i steps)) h)

pub drop_all : {X : Type 0} (xs : List X) (i : ℕ) → length xs ≤ i → drop i xs ≡ []
drop_all [] zero h = refl
drop_all [] (suc i) h = refl
drop_all (x ∷ xs) zero h = absurd (omega (arith, h))
drop_all (x ∷ xs) (suc i) h = drop_all xs i (omega (arith, h))

-- a step is allowed by those before it where all are legal
pub allowed_at : (layout : Layout) (steps : List Step) (i : ℕ) (s : Step) → Legal layout steps → i < length steps → s ≡ get_or steps i s
    → Allowed layout (reverse (take i steps)) s
allowed_at layout steps i s h l e = (subst (λ (past : List Step). LegalPast layout past) (past_more steps i s l e) (legal_front layout steps (i + 1) h)).1
