-- A list read from its end.
use Rattle.std.proofs.Common.{ℕ, ◌+◌, ◌<◌, ◌≡◌, List, [], ◌∷◌, length, take, get_or, ap, sym, ◌∙◌}
use Rattle.std.specs.Prelude.{reverse}
use Rattle.std.proofs.lemmas.List.{reverse-append, take_more}

-- one element more of the front stands first, from the end
pub reverse_take : {X : Type 0} (xs : List X) (i : ℕ) (d : X) → i < length xs → reverse (take (i + 1) xs) ≡ get_or xs i d ∷ reverse (take i xs)
reverse_take {X = X} xs i d h =
    ap (λ (l : List X). reverse l) (take_more xs i d h) ∙ reverse-append (take i xs) (get_or xs i d ∷ [])

-- the same, where the element is known by another name
pub past_more : {X : Type 0} (xs : List X) (i : ℕ) (x : X) → i < length xs → x ≡ get_or xs i x → reverse (take (i + 1) xs) ≡ x ∷ reverse (take i xs)
past_more {X = X} xs i x h e = reverse_take xs i x h ∙ ap (λ (y : X). y ∷ reverse (take i xs)) (sym e)
