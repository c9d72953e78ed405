-- Keys in ascending order, none twice.
use Rattle.std.specs.Prelude.{ℕ, ◌==◌, nat_lt, if◌then◌else◌, List, [], ◌∷◌, Option, Some, None, option_map, option_and_then}

-- ascending keys with one more at its place, or None where it stands among them
abbrev pub with_key : ℕ → List ℕ → Option (List ℕ)
with_key key [] = Some (key ∷ [])
with_key key (x ∷ xs) =
    if nat_lt x key then option_map (λ more. x ∷ more) (with_key key xs)
    else (if x == key then None else Some (key ∷ (x ∷ xs)))

-- the keys in ascending order, or None where one stands twice
abbrev pub ascending : List ℕ → Option (List ℕ)
ascending [] = Some []
ascending (key ∷ keys) = option_and_then (with_key key) (ascending keys)
