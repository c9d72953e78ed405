-- What the values of an array say is what its data says.
use Rattle.std.proofs.Common.{◌≡◌, ◌∙◌, ap, sym, refl, List, [], ◌∷◌, ◌++◌, map, Option, Some, None}
use Rattle.std.specs.Prelude.{option_and_then}
use Rattle.toml.specs.Data.{Data, as_array}
use Rattle.toml.specs.View.{view, items_view}
use Rattle.toml.specs.declared.value.Value.{Value}
use Rattle.dm_schema.specs.Parts.{each, each_from, elements}

elements_view : (vs : List Value) → elements (items_view vs) ≡ map view vs
elements_view [] = refl
elements_view (v ∷ vs) = ap (λ (ds : List Data). view v ∷ ds) (elements_view vs)

same_then : {A B : Type 0} (f g : A → Option B) → ((x : A) → f x ≡ g x) → (o : Option A) → option_and_then f o ≡ option_and_then g o
same_then f g same None = refl
same_then f g same (Some x) = same x

each_map : {A B C : Type 0} (f : B → Option C) (g : A → B) (xs : List A) (done : List C) → each_from done f (map g xs) ≡ each_from done (λ x. f (g x)) xs
each_map f g [] done = refl
each_map f g (x ∷ xs) done =
    same_then (λ y. each_from (done ++ y ∷ []) f (map g xs)) (λ y. each_from (done ++ y ∷ []) (λ z. f (g z)) xs)
    (λ y. each_map f g xs (done ++ y ∷ [])) (f (g x))

pub of_array : {B : Type 0} (f : Data → Option B) (d : Data) (vs : List Value) (r : Option (List B)) → Some (items_view vs) ≡ as_array d
    → r ≡ each (λ v. f (view v)) vs → r ≡ option_and_then (λ items. each f (elements items)) (as_array d)
of_array f d vs r found same =
    same ∙ sym (each_map f view vs []) ∙ ap (each f) (sym (elements_view vs)) ∙ ap (option_and_then (λ items. each f (elements items))) found
