-- A window of sets, and the lists of the last Routes.
use Rattle.std.proofs.Common.{ℕ, zero, suc, ◌+◌, ◌-◌, ◌≤◌, ◌≡◌, List, [], ◌∷◌, ◌++◌, length, get_or, take, drop, refl, sym}
use Rattle.std.proofs.Common.{ap, ◌∙◌, arith, inl, inr, length-append}
use Rattle.std.specs.Prelude.{reverse}
use Rattle.std.proofs.lemmas.Bool.{cases_lt}
use Rattle.std.proofs.lemmas.List.{reverse-append, length-reverse, length-take-le}
use Rattle.dm_event.proofs.Backwards.{reverse_take}

take_all : {X : Type 0} (n : ℕ) (xs : List X) → length xs ≤ n → take n xs ≡ xs
take_all zero [] h = refl
take_all (suc n) [] h = refl
take_all zero (x ∷ xs) h = absurd (omega (arith, h))
take_all (suc n) (x ∷ xs) h = ap (λ (l : List _). x ∷ l) (take_all n xs (omega (arith, h)))

-- what is left of a list with one more where the first goes, or none
first_goes : (m : ℕ) (first : List ℕ) (rest : List (List ℕ)) (last : List ℕ) → length rest ≡ m
    → drop (length ((first ∷ rest) ++ last ∷ []) - suc m) ((first ∷ rest) ++ last ∷ []) ≡ rest ++ last ∷ []
first_goes m first rest last e =
    ap (λ (k : ℕ). drop k ((first ∷ rest) ++ last ∷ []))
    (let long = length-append rest (last ∷ []) in let one : length ((first ∷ rest) ++ last ∷ []) - suc m ≡ 1 = omega (arith, long, e) in one)

none_goes : (m : ℕ) (sets : List (List ℕ)) (last : List ℕ) → length sets ≤ m
    → drop (length (sets ++ last ∷ []) - suc m) (sets ++ last ∷ []) ≡ sets ++ last ∷ []
none_goes m sets last h =
    ap (λ (k : ℕ). drop k (sets ++ last ∷ []))
    (let long = length-append sets (last ∷ []) in let none : length (sets ++ last ∷ []) - suc m ≡ 0 = omega (arith, long, h) in none)

-- the last m + 1, once one more came
pub noted_is : (m : ℕ) (lists : List (List ℕ)) (l : List ℕ)
    → drop (length (reverse (take (suc m) lists) ++ l ∷ []) - suc m) (reverse (take (suc m) lists) ++ l ∷ []) ≡ reverse (l ∷ take m lists)
noted_is m lists l =
    elim (cases_lt m (length lists)) [
      | inl more ↦
          (let long : length (reverse (take m lists)) ≡ m = length-reverse (take m lists) ∙ length-take-le m lists (omega (arith, more)) in
          let parted : reverse (take (suc m) lists) ≡ get_or lists m [] ∷ reverse (take m lists) =
          ap (λ (k : ℕ). reverse (take k lists)) (let e : suc m ≡ m + 1 = omega arith in e) ∙ reverse_take lists m [] more in
          ap (λ (xs : List (List ℕ)). drop (length (xs ++ l ∷ []) - suc m) (xs ++ l ∷ [])) parted
          ∙ first_goes m (get_or lists m []) (reverse (take m lists)) l long)
      | inr few ↦
          (let all : reverse (take (suc m) lists) ≡ reverse (take m lists) =
          ap (λ (xs : List (List ℕ)). reverse xs) (take_all (suc m) lists (omega (arith, few)) ∙ sym (take_all m lists few)) in
          let short : length (reverse (take m lists)) ≤ m =
          (let long = length-reverse (take m lists) in let same = ap (λ (xs : List (List ℕ)). length xs) (take_all m lists few) in
          omega (arith, long, same, few)) in
          ap (λ (xs : List (List ℕ)). drop (length (xs ++ l ∷ []) - suc m) (xs ++ l ∷ [])) all
          ∙ none_goes m (reverse (take m lists)) l short)
    ]
    ∙ sym (reverse-append (l ∷ []) (take m lists))
