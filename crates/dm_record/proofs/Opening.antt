-- The first number of what is still due.
use Rattle.std.proofs.Common.{◌≡◌, ap, ℕ, suc, ◌+◌, ◌-◌, ◌^◌, List, [], ◌∷◌, ◌++◌, w64}
use Rattle.std.specs.Int.{cast_signed}
use Rattle.dm_event.specs.declared.step.Pair.{Pair}
use Rattle.dm_record.specs.Form.{Form, number, walk}
use Rattle.dm_record.specs.Grammar.{components_form, pairs_form}

module _ (bytes : List ℕ) (at k left : ℕ) (is : k ≡ suc left) where
  pub open_pairs : (least : ℕ) (before : List Pair) (next : List Pair → Form)
      → walk (pairs_form k least before next) bytes at
      ≡ walk (number least (16777215 - left) 0 4
      (λ key. number 0 (2 ^ 64 - 1) 0 8 (λ bits. pairs_form left (key + 1) (before ++ record { key = key; value = cast_signed w64 bits } ∷ []) next))) bytes at
  unfolding pairs_form
  open_pairs least before next = ap (λ (j : ℕ). walk (pairs_form j least before next) bytes at) is

  pub open_vector : (before : List ℕ) (next : List ℕ → Form)
      → walk (components_form k before next) bytes at ≡ walk (number 0 (2 ^ 64 - 1) 0 8 (λ x. components_form left (before ++ x ∷ []) next)) bytes at
  unfolding components_form
  open_vector before next = ap (λ (j : ℕ). walk (components_form j before next) bytes at) is

pub no_pairs : (bytes : List ℕ) (at k least : ℕ) (before : List Pair) (next : List Pair → Form) → k ≡ 0
    → walk (pairs_form k least before next) bytes at ≡ walk (next before) bytes at
unfolding pairs_form
no_pairs bytes at k least before next is = ap (λ (j : ℕ). walk (pairs_form j least before next) bytes at) is

pub no_vector : (bytes : List ℕ) (at k : ℕ) (before : List ℕ) (next : List ℕ → Form) → k ≡ 0
    → walk (components_form k before next) bytes at ≡ walk (next before) bytes at
unfolding components_form
no_vector bytes at k before next is = ap (λ (j : ℕ). walk (components_form j before next) bytes at) is
