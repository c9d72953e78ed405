-- Lists turned round, and what is found of them.
use Rattle.std.proofs.Common.{ℕ, ◌≡◌, List, [], ◌∷◌, ◌++◌, refl, ap, sym, subst, ◌∙◌, arith, map, Option, Some, None}
use Rattle.std.proofs.lemmas.List.{reverse-append, map-append, append-nil}
use Rattle.std.proofs.lemmas.List.Elements.{filter_map-append}
use Rattle.std.specs.List.{cons_option, AllByRecursion as Each}
use Rattle.std.specs.Prelude.{reverse, filter_map, option_and_then}
use Rattle.dm_event.specs.Vectors.{at, vector_by, join_all, greatest}
use Rattle.dm_restart.proofs.Maxima.{greatest_more}

reverse-cons : {X : Type 0} (x : X) (xs : List X) → reverse (x ∷ xs) ≡ reverse xs ++ x ∷ []
reverse-cons x xs = reverse-append (x ∷ []) xs

pub map_reverse : {X Y : Type 0} (f : X → Y) (xs : List X) → map f (reverse xs) ≡ reverse (map f xs)
map_reverse f [] = refl
map_reverse f (x ∷ xs) =
    ap (λ (ys : List _). map f ys) (reverse-cons x xs) ∙ map-append f (reverse xs) (x ∷ [])
    ∙ ap (λ (ys : List _). ys ++ f x ∷ []) (map_reverse f xs) ∙ sym (reverse-cons (f x) (map f xs))

pub filter_map_reverse : {X Y : Type 0} (f : X → Option Y) (xs : List X) → filter_map f (reverse xs) ≡ reverse (filter_map f xs)
filter_map_reverse f [] = refl
filter_map_reverse f (x ∷ xs) =
    ap (λ (ys : List _). filter_map f ys) (reverse-cons x xs) ∙ filter_map-append f (reverse xs) (x ∷ [])
    ∙ ap (λ (ys : List _). ys ++ cons_option (f x) []) (filter_map_reverse f xs) ∙ by (f x)
  where
    by : (o : Option _) → reverse (filter_map f xs) ++ cons_option o [] ≡ reverse (cons_option o (filter_map f xs))
    by None = append-nil (reverse (filter_map f xs))
    by (Some y) = sym (reverse-cons y (filter_map f xs))

-- one search behind another is one search
pub filter_map_both : {X Y Z : Type 0} (f : X → Option Y) (g : Y → Option Z) (h : X → Option Z) → ((x : X) → option_and_then g (f x) ≡ h x) → (xs : List X)
    → filter_map g (filter_map f xs) ≡ filter_map h xs
filter_map_both f g h e [] = refl
filter_map_both f g h e (x ∷ xs) = by (f x) (h x) (e x) (filter_map_both f g h e xs)
  where
    by : (o : Option _) (p : Option _) → option_and_then g o ≡ p → filter_map g (filter_map f xs) ≡ filter_map h xs
        → filter_map g (cons_option o (filter_map f xs)) ≡ cons_option p (filter_map h xs)
    by None p k r = r ∙ ap (λ (q : Option _). cons_option q (filter_map h xs)) k
    by (Some y) p k r = ap (λ (zs : List _). cons_option (g y) zs) r ∙ ap (λ (q : Option _). cons_option q (filter_map h xs)) k

pub each_reverse : {X : Type 0} (P : X → Type 0) (xs : List X) → Each P xs → Each P (reverse xs)
each_reverse P [] h = tt
each_reverse P (x ∷ xs) h = subst' (sym (reverse-cons x xs)) (push (reverse xs) (each_reverse P xs h.1))
  where
    push : (ys : List _) → Each P ys → Each P (ys ++ x ∷ [])
    push [] k = (h.0, tt)
    push (y ∷ ys) k = (k.0, push ys k.1)

    subst' : {ys zs : List _} → ys ≡ zs → Each P ys → Each P zs
    subst' e k = subst (λ (l : List _). Each P l) e k

greatest_reverse : (xs : List ℕ) → greatest (reverse xs) ≡ greatest xs
greatest_reverse [] = refl
greatest_reverse (x ∷ xs) =
    let r = greatest_reverse xs in
    let e = ap greatest (reverse-cons x xs) ∙ greatest_more (reverse xs) x in
    omega (arith, r, e)

-- a maximum doesn't depend on the order
pub join_reverse : (count : ℕ) (vs : List (List ℕ)) → join_all count (reverse vs) ≡ join_all count vs
join_reverse count vs = λ i. vector_by count (λ site. same site i)
  where
    same : (site : ℕ) → greatest (map (λ v. at v site) (reverse vs)) ≡ greatest (map (λ v. at v site) vs)
    same site = ap greatest (map_reverse (λ (v : List ℕ). at v site) vs) ∙ greatest_reverse (map (λ v. at v site) vs)
