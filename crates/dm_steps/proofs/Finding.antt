-- Searches from the front on.
use Rattle.std.proofs.Common.{ℕ, suc, ◌+◌, ◌<◌, ◌≡◌, Bool, true, false, List, [], ◌∷◌, ◌++◌, Option, Some, None, length, drop, get_or, refl, ap, sym, ◌∙◌}
use Rattle.std.proofs.Common.{add-one}
use Rattle.std.specs.Prelude.{reverse, find, filter_map, ◌/◌, ◌==◌, ◌||◌}
use Rattle.std.specs.List.{cons_option, list_any}
use Rattle.std.proofs.Math.Seq.{drop-cons}
use Rattle.std.proofs.lemmas.Bool.{cond-true, cond-false}
use Rattle.std.proofs.lemmas.List.{reverse-append}
use Rattle.std.proofs.lemmas.List.Elements.{filter_map-append}
use Rattle.dm_event.specs.Layout.{Layout}
use Rattle.dm_model.specs.Choices.{parts_in_order}
use Rattle.dm_model.specs.Tests.{is_among}

-- the rest of a list begins with its element
pub rest_is : {X : Type 0} (xs : List X) (i : ℕ) (x : X) → i < length xs → x ≡ get_or xs i x → drop i xs ≡ x ∷ drop (i + 1) xs
rest_is {X = X} xs i x h e = drop-cons xs i x h ∙ ap (λ (y : X). y ∷ drop (suc i) xs) (sym e) ∙ ap (λ (n : ℕ). x ∷ drop n xs) (sym (add-one i))

-- an element that doesn't pass is passed over
pub find_on : {X : Type 0} (p : X → Bool) (xs : List X) (i : ℕ) (x : X) → i < length xs → x ≡ get_or xs i x → p x ≡ false
    → find p (drop (i + 1) xs) ≡ find p (drop i xs)
find_on {X = X} p xs i x h e f = sym (ap (λ (l : List X). find p l) (rest_is xs i x h e) ∙ cond-false (p x) _ _ f)

pub find_here : {X : Type 0} (p : X → Bool) (xs : List X) (i : ℕ) (x : X) → i < length xs → x ≡ get_or xs i x → p x ≡ true → find p (drop i xs) ≡ Some x
find_here {X = X} p xs i x h e f = ap (λ (l : List X). find p l) (rest_is xs i x h e) ∙ cond-true (p x) _ _ f

one_reversed : {Y : Type 0} (o : Option Y) → reverse (cons_option o []) ≡ cons_option o []
one_reversed None = refl
one_reversed (Some y) = refl

cons_is : {Y : Type 0} (o : Option Y) (ys : List Y) → cons_option o [] ++ ys ≡ cons_option o ys
cons_is None ys = refl
cons_is (Some y) ys = refl

-- what is given of a list from its end on is, from its end, what is given of the list
pub map_reverse : {X Y : Type 0} (h : X → Option Y) (xs : List X) → reverse (filter_map h (reverse xs)) ≡ filter_map h xs
map_reverse h [] = refl
map_reverse {X = X} {Y = Y} h (x ∷ xs) =
    ap (λ (l : List X). reverse (filter_map h l)) (reverse-append (x ∷ []) xs)
    ∙ ap (λ (l : List Y). reverse l) (filter_map-append h (reverse xs) (x ∷ []))
    ∙ reverse-append (filter_map h (reverse xs)) (cons_option (h x) [])
    ∙ ap (λ (l : List Y). l ++ reverse (filter_map h (reverse xs))) (one_reversed (h x))
    ∙ ap (λ (l : List Y). cons_option (h x) [] ++ l) (map_reverse h xs)
    ∙ cons_is (h x) (filter_map h xs)

-- whether a key is of the partition, key by key
pub any_part : (layout : Layout) (keys : List ℕ) (part : ℕ) → is_among (parts_in_order layout keys) part ≡ list_any (λ key. (key / layout.width) == part) keys
any_part layout [] part = refl
any_part layout (k ∷ keys) part = ap (λ (b : Bool). ((k / layout.width) == part) || b) (any_part layout keys part)
