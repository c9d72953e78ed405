-- What a call said of its result, said of the caller's.
use Rattle.std.proofs.Common.{◌≡◌, refl, sym, ◌∙◌, ap, ℕ, zero, suc, ◌-◌, ◌/◌, ◌%◌, ◌<◌, ◌≤◌, List, [], ◌∷◌, ◌++◌, length, take, drop, get_or, arith, append_assoc, Result, Ok, Err}
use Rattle.std.specs.Prelude.{IfOk, OnOk}
use Rattle.dm_record.specs.Form.{span}
use Rattle.dm_record.specs.Bytes.{digits, pairs}
use Rattle.std.specs.Int.{cast_unsigned, w64}
use Rattle.dm_event.specs.declared.step.Pair.{Pair}

pub ok_on : {A E : Type 0} → (P Q : A → Type 0) (result : Result A E) → IfOk result P → ((a : A) → P a → Q a) → IfOk result Q
ok_on P Q (Ok a) holds to = to a holds
ok_on P Q (Err e) holds to = tt

pub on_ok : {A E : Type 0} → (P Q : Type 0) (result : Result A E) → OnOk result P → (P → Q) → OnOk result Q
on_ok P Q (Ok a) holds to = to holds
on_ok P Q (Err e) holds to = tt

digits_first : (width n : ℕ) → 0 < width → digits width n ≡ n / span (width - 1) ∷ digits (width - 1) (n % span (width - 1))
digits_first zero n some = absurd (omega arith)
digits_first (suc w) n some = let same : w ≡ suc w - 1 = omega arith in ap (λ (k : ℕ). n / span k ∷ digits k (n % span k)) same

pub pushed : (old mid new : List ℕ) (width n first : ℕ) → 0 < width → first ≡ span (width - 1) → mid ≡ old ++ n / first ∷ []
    → new ≡ mid ++ digits (width - 1) (n % first) → new ≡ old ++ digits width n
pushed old mid new width n first some is one more =
    more ∙ ap (λ (l : List ℕ). l ++ digits (width - 1) (n % first)) one ∙ append_assoc old (n / first ∷ []) (digits (width - 1) (n % first))
    ∙ ap (λ (k : ℕ). old ++ (n / k ∷ digits (width - 1) (n % k))) is ∙ ap (λ (l : List ℕ). old ++ l) (sym (digits_first width n some))

pub pairs_first : (old mid new : List ℕ) (list : List Pair) (d : Pair) → 1 ≤ length list
    → mid ≡ old ++ (digits 4 (get_or list 0 d).key ++ digits 8 (cast_unsigned w64 (get_or list 0 d).value))
    → new ≡ mid ++ pairs (take (length list - 1) (drop 1 list)) → new ≡ old ++ pairs list
pairs_first old mid new [] d some one more = absurd (omega (arith, some))
pairs_first old mid new (p ∷ list) d some one more =
    let all : length list ≤ length (p ∷ list) - 1 = omega arith in
    more ∙ ap (λ (l : List ℕ). l ++ pairs (take (length (p ∷ list) - 1) list)) one
    ∙ ap (λ (l : List Pair). (old ++ (digits 4 p.key ++ digits 8 (cast_unsigned w64 p.value))) ++ pairs l) (take_over (length (p ∷ list) - 1) list all)
    ∙ append_assoc old (digits 4 p.key ++ digits 8 (cast_unsigned w64 p.value)) (pairs list)
    ∙ ap (λ (l : List ℕ). old ++ l) (append_assoc (digits 4 p.key) (digits 8 (cast_unsigned w64 p.value)) (pairs list))
  where
    take_over : (n : ℕ) (l : List Pair) → length l ≤ n → take n l ≡ l
    take_over zero [] fits = refl
    take_over (suc n) [] fits = refl
    take_over zero (x ∷ l) fits = absurd (omega (arith, fits))
    take_over (suc n) (x ∷ l) fits = ap (λ (k : List Pair). x ∷ k) (take_over n l (omega (arith, fits)))
