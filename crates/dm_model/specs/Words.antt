-- Words on a past: the list of the steps so far, the latest first.
use Rattle.std.specs.Option.{option_or}
use Rattle.std.specs.Prelude.{suc, ℕ, Bool, if◌then◌else◌, List, [], ◌∷◌, Option, Some, None}

-- what the function gives of the latest step of which it gives something
abbrev pub latest : {S X : Type 0} → (S → Option X) → List S → Option X
latest h [] = None
latest h (s ∷ past) = option_or (h s) (latest h past)

-- the steps after the latest that passes; all of them, where none does
abbrev pub since : {S : Type 0} → (S → Bool) → List S → List S
since p [] = []
since p (s ∷ past) = if p s then [] else s ∷ since p past

-- how many pass
abbrev pub count_of : {X : Type 0} → (X → Bool) → List X → ℕ
count_of p [] = 0
count_of p (x ∷ xs) = if p x then suc (count_of p xs) else count_of p xs

-- what there is, if it passes
abbrev pub option_filter : {X : Type 0} → (X → Bool) → Option X → Option X
option_filter p None = None
option_filter p (Some x) = if p x then Some x else None
