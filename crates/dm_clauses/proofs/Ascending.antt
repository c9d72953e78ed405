-- Lists of keys that ascend.
use Rattle.std.proofs.Common.{ℕ, zero, suc, ◌+◌, ◌<◌, ◌≤◌, ◌≡◌, Bool, true, false, List, [], ◌∷◌, length, drop, get_or, refl, ap, sym, ◌∙◌, arith, add-one}
use Rattle.std.specs.Prelude.{nat_lt, ◌&&◌}
use Rattle.std.proofs.lemmas.Bool.{lt-ltb, le-ltb}
use Rattle.dm_model.specs.Shape.{is_ascending}

two : (ks : List ℕ) (i : ℕ) → suc i < length ks → is_ascending (drop i ks) ≡ (nat_lt (get_or ks i 0) (get_or ks (suc i) 0) && is_ascending (drop (suc i) ks))
two [] i h = absurd (omega (arith, h))
two (x ∷ []) i h = absurd (omega (arith, h))
two (x ∷ (y ∷ ks)) zero h = refl
two (x ∷ (y ∷ ks)) (suc i) h = two (y ∷ ks) i (omega (arith, h))

-- where the next key is above, the rest decides
pub ascends_on : (ks : List ℕ) (i : ℕ) → i + 1 < length ks → get_or ks i 0 < get_or ks (i + 1) 0 → is_ascending (drop (i + 1) ks) ≡ is_ascending (drop i ks)
ascends_on ks i h l =
    let h' : suc i < length ks = omega (arith, h) in
    let l' : get_or ks i 0 < get_or ks (suc i) 0 = rw (← add-one i) l in
    rw add-one (sym (two ks i h' ∙ ap (λ (b : Bool). b && is_ascending (drop (suc i) ks)) (lt-ltb _ _ l')))

-- where it isn't, the keys don't ascend
pub ascends_not : (ks : List ℕ) (i : ℕ) → i + 1 < length ks → get_or ks (i + 1) 0 ≤ get_or ks i 0 → is_ascending (drop i ks) ≡ false
ascends_not ks i h l =
    let h' : suc i < length ks = omega (arith, h) in
    let l' : get_or ks (suc i) 0 ≤ get_or ks i 0 = rw (← add-one i) l in
    two ks i h' ∙ ap (λ (b : Bool). b && is_ascending (drop (suc i) ks)) (le-ltb _ _ l')

-- one key ascends
pub ascends_last : (ks : List ℕ) (i : ℕ) → length ks ≤ i + 1 → is_ascending (drop i ks) ≡ true
ascends_last [] zero h = refl
ascends_last [] (suc i) h = refl
ascends_last (x ∷ []) zero h = refl
ascends_last (x ∷ []) (suc i) h = ascends_last [] i (omega arith)
ascends_last (x ∷ (y ∷ ks)) zero h = absurd (omega (arith, h))
ascends_last (x ∷ (y ∷ ks)) (suc i) h = ascends_last (y ∷ ks) i (omega (arith, h))
