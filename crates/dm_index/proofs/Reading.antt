-- Lists of places, read and changed through vectors.
use Rattle.std.proofs.Common.{ℕ, zero, suc, ◌-◌, ◌<◌, ◌≤◌, ◌≡◌, List, [], ◌∷◌, ◌++◌, Option, length, map, refl, sym, ap, ◌∙◌, arith, set}
use Rattle.std.proofs.Common.{get_or, unwrap_or}
use Rattle.std.proofs.lemmas.Option.{slice_get-map, slice_get_read}
use Rattle.std.specs.Prelude.{option_map, option_and_then, slice_get}
use Rattle.dm_index.specs.Places.{place_in, places_at}
use Rattle.dm_steps.specs.Slots.{numbered_in}

map_set : {X Y : Type 0} (f : X → Y) (xs : List X) (i : ℕ) (y : X) → map f (set xs i y) ≡ set (map f xs) i (f y)
map_set f [] zero y = refl
map_set f [] (suc i) y = refl
map_set f (x ∷ xs) zero y = refl
map_set {Y = Y} f (x ∷ xs) (suc i) y = ap (λ (l : List Y). f x ∷ l) (map_set f xs i y)

pub appended : {X : Type 0} (f : X → List ℕ) (xs : List X) (i p : ℕ) (x y : X) → i < length xs → x ≡ get_or xs i x → f y ≡ f x ++ p ∷ []
    → map f (set xs i y) ≡ set (map f xs) i (places_at (map f xs) i ++ p ∷ [])
appended {X = X} f xs i p x y h e g =
    map_set f xs i y ∙ ap (λ (l : List ℕ). set (map f xs) i l)
    (g ∙ ap (λ (o : Option (List ℕ)). unwrap_or o [] ++ p ∷ [])
    (sym (slice_get-map f xs i ∙ ap (λ (o : Option X). option_map f o) (slice_get_read xs (length xs) i x refl h e))))

pub read : {X : Type 0} (f : X → List ℕ) (xs : List X) (k m n : ℕ) (x : X) → k ≡ m - 1 → 1 ≤ m → k < length xs → x ≡ get_or xs k x
    → place_in (map f xs) m n ≡ numbered_in (f x) n
read f xs k zero n x e l h g = absurd (omega (arith, l))
read {X = X} f xs k (suc m) n x e l h g =
    let same : k ≡ m = omega (arith, e) in
    ap (λ (o : Option (List ℕ)). option_and_then (λ (ls : List ℕ). numbered_in ls n) o)
    (ap (λ (j : ℕ). slice_get (map f xs) j) (sym same) ∙ slice_get-map f xs k
    ∙ ap (λ (o : Option X). option_map f o) (slice_get_read xs (length xs) k x refl h g))
