-- Where the partitions of keys are settled, and where they are at home.
use Rattle.std.proofs.Common.{ℕ, ◌+◌, ◌-◌, ◌%◌, ◌<◌, ◌≡◌, Bool, true, false, cond, List, [], ◌∷◌, Option, Some, refl, ap, ◌∙◌, subst, eqb-true, arith}
use Rattle.std.specs.Prelude.{◌==◌, ◌&&◌, ◌||◌, ◌/◌, find, map, option_map, unwrap_or}
use Rattle.std.specs.List.{list_all, range_with_len}
use Rattle.std.proofs.lemmas.Bool.{and_parts, both_ways}
use Rattle.std.proofs.lemmas.List.Folds.{list_all-map}
use Rattle.dm_event.specs.Layout.{Layout}
use Rattle.dm_event.specs.declared.step.Step.{Step}
use Rattle.dm_event.proofs.Sites.{find_first, find_nothing}
use Rattle.dm_event.specs.Vectors.{is_at_most}
use Rattle.dm_model.specs.Choices.{distinct, parts_in_order, parts_of, reader_site}
use Rattle.dm_model.specs.Progress.{site_vector}
use Rattle.dm_model.specs.Sessions.{session_vector}
use Rattle.dm_model.specs.Placings.{placing, settled_at}
use Rattle.dm_model.specs.Tests.{is_among}
use Rattle.dm_clauses.specs.Choosing.{all_settled, around, has_seen}

-- what passes for a list passes for each of its elements
among_pass : (q : ℕ → Bool) (xs : List ℕ) (x : ℕ) → is_among xs x ≡ true → list_all q xs ≡ true → q x ≡ true
among_pass q [] x e h = absurd (both_ways false refl e)
among_pass q (y ∷ ys) x e h = by_test (y == x) refl e (λ g. among_pass q ys x g (and_parts (q y) (list_all q ys) h).1)
  where
    by_test : (b : Bool) → (y == x) ≡ b → (b || is_among ys x) ≡ true → (is_among ys x ≡ true → q x ≡ true) → q x ≡ true
    by_test true f g r = subst (λ (z : ℕ). q z ≡ true) (eqb-true y x f) (and_parts (q y) (list_all q ys) h).0
    by_test false f g r = r g

-- an element that stands again passes with the rest
pass_again : (a b : Bool) → (b ≡ true → a ≡ true) → b ≡ (a && b)
pass_again true b h = refl
pass_again false true h = absurd (both_ways false refl (h refl))
pass_again false false h = refl

all_distinct : (q : ℕ → Bool) (xs : List ℕ) → list_all q (distinct xs) ≡ list_all q xs
all_distinct q [] = refl
all_distinct q (x ∷ xs) = by_test (is_among xs x) refl (all_distinct q xs)
  where
    by_test : (b : Bool) → is_among xs x ≡ b → list_all q (distinct xs) ≡ list_all q xs
        → list_all q (cond b (distinct xs) (x ∷ distinct xs)) ≡ (q x && list_all q xs)
    by_test true e h = h ∙ pass_again (q x) (list_all q xs) (among_pass q xs x e)
    by_test false e h = ap (λ (b : Bool). q x && b) h

-- all partitions of the keys are settled at the site where that of each key is
pub settled_parts : (layout : Layout) (past : List Step) (keys : List ℕ) (site : ℕ)
    → list_all (λ p. settled_at (placing layout past p) site) (parts_of layout keys) ≡ all_settled layout past site keys
settled_parts layout past keys site =
    all_distinct (λ p. settled_at (placing layout past p) site) (parts_in_order layout keys)
    ∙ list_all-map (λ p. settled_at (placing layout past p) site) (λ key. key / layout.width) keys

-- ---- readers

find_map : (p : ℕ → Bool) (f : ℕ → ℕ) (xs : List ℕ) → find p (map f xs) ≡ option_map f (find (λ x. p (f x)) xs)
find_map p f [] = refl
find_map p f (x ∷ xs) = by_test (p (f x)) (find_map p f xs)
  where
    by_test : (b : Bool) → find p (map f xs) ≡ option_map f (find (λ x. p (f x)) xs)
        → cond b (Some (f x)) (find p (map f xs)) ≡ option_map f (cond b (Some x) (find (λ x. p (f x)) xs))
    by_test true h = refl
    by_test false h = h

own_first : (n : ℕ) → n ≡ n + 0
own_first n = omega arith

module _ (layout : Layout) (past : List Step) (session : ℕ) where
  pub reader_found : (k : ℕ) → k < layout.sites → has_seen layout past session k ≡ true → ((j : ℕ) → j < k → has_seen layout past session j ≡ false)
      → reader_site layout past session ≡ around layout session k
  reader_found k l h before =
      ap (λ (o : Option ℕ). unwrap_or o (1 + (session - 1) % layout.sites))
      (find_map (λ site. is_at_most (session_vector layout.sites past session) (site_vector layout.sites past site)) (around layout session)
      (range_with_len 0 layout.sites)
      ∙ ap (λ (o : Option ℕ). option_map (around layout session) o) (find_first (has_seen layout past session) 0 layout.sites k (omega arith) (omega (arith, l))
      h (λ j x y. before j y)))

  pub reader_none : ((j : ℕ) → j < layout.sites → has_seen layout past session j ≡ false) → reader_site layout past session ≡ around layout session 0
  reader_none before =
      ap (λ (o : Option ℕ). unwrap_or o (1 + (session - 1) % layout.sites))
      (find_map (λ site. is_at_most (session_vector layout.sites past session) (site_vector layout.sites past site)) (around layout session)
      (range_with_len 0 layout.sites)
      ∙ ap (λ (o : Option ℕ). option_map (around layout session) o) (find_nothing (has_seen layout past session) 0 layout.sites
      (λ j x y. before j (omega (arith, y)))))
      ∙ ap (λ (n : ℕ). 1 + n % layout.sites) (own_first (session - 1))
