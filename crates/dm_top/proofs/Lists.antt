-- Lists of two, and of three.
use Rattle.std.proofs.Common.{◌≡◌, ◌≤◌, ◌<◌, List, [], ◌∷◌, length, get_or, arith}

pub both_of : {A : Type 0} (xs : List A) (a b : A) → 2 ≤ length xs → length xs < 3 → a ≡ get_or xs 0 a → b ≡ get_or xs 1 b → xs ≡ a ∷ b ∷ []
both_of [] a b least most e f = absurd (omega arith)
both_of (x ∷ []) a b least most e f = absurd (omega arith)
both_of (x ∷ y ∷ []) a b least most e f = cc
both_of (x ∷ y ∷ z ∷ xs) a b least most e f = absurd (omega arith)

pub three_of : {A : Type 0} (xs : List A) (a b c : A) → 3 ≤ length xs → length xs < 4 → a ≡ get_or xs 0 a → b ≡ get_or xs 1 b → c ≡ get_or xs 2 c
    → xs ≡ a ∷ b ∷ c ∷ []
three_of [] a b c least most e f g = absurd (omega arith)
three_of (x ∷ []) a b c least most e f g = absurd (omega arith)
three_of (x ∷ y ∷ []) a b c least most e f g = absurd (omega arith)
three_of (x ∷ y ∷ z ∷ []) a b c least most e f g = cc
three_of (x ∷ y ∷ z ∷ w ∷ xs) a b c least most e f g = absurd (omega arith)
