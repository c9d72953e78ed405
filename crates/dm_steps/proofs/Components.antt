-- Vectors by their components.
use Rattle.std.proofs.Common.{ℕ, zero, suc, ◌≤◌, ◌≡◌, List, [], ◌∷◌, length, get_or, refl, ap, sym, ◌∙◌, arith, max}
use Rattle.std.specs.Prelude.{replicate, map, Option, Some, None, IfSome}
use Rattle.std.specs.List.{cons_option}
use Rattle.dm_event.specs.Vectors.{at, vector_by, join_all, join, greatest}
use Rattle.dm_event.proofs.Components.{at_join, same_components, zeros_from, long_join}
use Rattle.dm_steps.specs.Adding.{join_one}
use Rattle.dm_model.proofs.VectorFacts.{at_by, long_by}

-- a vector with these components is the one of the function
pub vector_is : (count : ℕ) (v : List ℕ) (f : ℕ → ℕ) → length v ≡ count → ((k : ℕ) → 1 ≤ k → k ≤ count → at v k ≡ f k) → v ≡ vector_by count f
vector_is count v f l h =
    same_components v (vector_by count f) (l ∙ sym (long_by count f))
    (λ k m. h (suc k) (omega arith) (omega (arith, l, m)) ∙ sym (at_by count f (suc k) (omega arith) (omega (arith, l, m))))

-- the maximum of no vectors
pub join_none : (count : ℕ) → replicate {A = ℕ} count 0 ≡ join_all count []
join_none count = sym (zeros_from 1 count)

-- the maximum with one vector more
pub join_more : (count : ℕ) (v : List ℕ) (vs : List (List ℕ)) → length v ≡ count → join (join_all count vs) v ≡ join_all count (v ∷ vs)
join_more count v vs l =
    vector_is count (join (join_all count vs) v) (λ site. max (at v site) (greatest (map (λ w. at w site) vs)))
    (long_join (join_all count vs) v (long_by count _ ∙ sym l) ∙ long_by count _)
    by_component
  where
    by_component : (k : ℕ) → 1 ≤ k → k ≤ count → at (join (join_all count vs) v) k ≡ max (at v k) (greatest (map (λ w. at w k) vs))
    by_component zero o m = absurd (omega (arith, o))
    by_component (suc k) o m =
        let one : get_or (join (join_all count vs) v) k 0 ≡ max (get_or (join_all count vs) k 0) (get_or v k 0) = at_join (join_all count vs) v k in
        let two : at (join_all count vs) (suc k) ≡ greatest (map (λ w. at w (suc k)) vs) =
        at_by count (λ site. greatest (map (λ w. at w site) vs)) (suc k) o m in
        grind (arith, one, two)

-- the same, where there may be one more
pub join_one_more : (count : ℕ) (o : Option (List ℕ)) (vs : List (List ℕ)) → IfSome o (λ v. length v ≡ count)
    → join_one (join_all count vs) o ≡ join_all count (cons_option o vs)
join_one_more count None vs h = refl
join_one_more count (Some v) vs h = join_more count v vs h

-- the vector that may come is as long as the maximum
pub long_both : (count : ℕ) (o : Option (List ℕ)) (vs : List (List ℕ)) (v : List ℕ) → v ≡ join_all count vs → IfSome o (λ w. length w ≡ count)
    → IfSome o (λ w. length v ≡ length w)
long_both count None vs v e h = tt
long_both count (Some w) vs v e h = ap (λ (u : List ℕ). length u) e ∙ long_by count _ ∙ sym h
