-- An own write, and the place where it is put.
use Rattle.std.proofs.Common.{ℕ, ℤ, suc, ◌+◌, ◌<◌, ◌≡◌, ◌≢◌, Bool, true, false, ◌==◌, nat_lt, cond, List, [], ◌∷◌, length, get_or, set, refl, sym, ap, subst}
use Rattle.std.proofs.Common.{arith}
use Rattle.std.specs.Prelude.{insert}
use Rattle.std.specs.List.{prefix_len}
use Rattle.std.proofs.lemmas.Bool.{eqb-true, eq-eqb, both_ways}
use Rattle.dm_event.specs.declared.step.Pair.{Pair}
use Rattle.dm_model.specs.Bodies.{put}

-- how many keys are below, from the first on
abbrev pub place : List Pair → ℕ → ℕ
place ps key = prefix_len (λ (p : Pair). nat_lt p.key key) ps

-- one pair more in front, which is below (b) or has the key (c)
same_step : (b c : Bool) (p new d : Pair) (ps puts : List Pair) (key m k : ℕ) → m ≡ suc k → (p.key ≡ key → c ≡ true)
    → (k < length ps → (get_or ps k d).key ≡ key → set ps k new ≡ puts) → cond b m 0 < length (p ∷ ps) → (get_or (p ∷ ps) (cond b m 0) d).key ≡ key
    → set (p ∷ ps) (cond b m 0) new ≡ cond b (p ∷ puts) (cond c (new ∷ ps) (new ∷ (p ∷ ps)))
same_step true c p new d ps puts key m k q has rest l e =
    subst (λ (n : ℕ). n < length (p ∷ ps) → (get_or (p ∷ ps) n d).key ≡ key → set (p ∷ ps) n new ≡ p ∷ puts) (sym q)
    (λ l' e'. ap (λ (xs : List Pair). p ∷ xs) (rest (omega arith) e')) l e
same_step false true p new d ps puts key m k q has rest l e = refl
same_step false false p new d ps puts key m k q has rest l e = absurd (both_ways false refl (has e))

new_step : (b c : Bool) (p new d : Pair) (ps puts : List Pair) (key m k : ℕ) → m ≡ suc k → (c ≡ true → p.key ≡ key)
    → ((k < length ps → (get_or ps k d).key ≢ key) → insert ps k new ≡ puts) → (cond b m 0 < length (p ∷ ps) → (get_or (p ∷ ps) (cond b m 0) d).key ≢ key)
    → insert (p ∷ ps) (cond b m 0) new ≡ cond b (p ∷ puts) (cond c (new ∷ ps) (new ∷ (p ∷ ps)))
new_step true c p new d ps puts key m k q is rest n =
    subst (λ (i : ℕ). (i < length (p ∷ ps) → (get_or (p ∷ ps) i d).key ≢ key) → insert (p ∷ ps) i new ≡ p ∷ puts) (sym q)
    (λ n'. ap (λ (xs : List Pair). p ∷ xs) (rest (λ l. n' (omega arith)))) n
new_step false true p new d ps puts key m k q is rest n = absurd (n (omega arith) (is refl))
new_step false false p new d ps puts key m k q is rest n = refl

-- where the key stands, its pair is replaced
pub put_same : (ps : List Pair) (key : ℕ) (value : ℤ) (d : Pair) → place ps key < length ps → (get_or ps (place ps key) d).key ≡ key
    → set ps (place ps key) (record { key = key; value = value }) ≡ put ps key value
put_same [] key value d l e = absurd (omega arith)
put_same (p ∷ ps) key value d l e =
    same_step (nat_lt p.key key) (p.key == key) p (record { key = key; value = value }) d ps (put ps key value) key (1 + place ps key) (place ps key)
    (omega arith) (eq-eqb p.key key) (put_same ps key value d) l e

-- where it does not, the pair comes between
pub put_new : (ps : List Pair) (key : ℕ) (value : ℤ) (d : Pair) → (place ps key < length ps → (get_or ps (place ps key) d).key ≢ key)
    → insert ps (place ps key) (record { key = key; value = value }) ≡ put ps key value
put_new [] key value d n = refl
put_new (p ∷ ps) key value d n =
    new_step (nat_lt p.key key) (p.key == key) p (record { key = key; value = value }) d ps (put ps key value) key (1 + place ps key) (place ps key)
    (omega arith) (eqb-true p.key key) (put_new ps key value d) n

-- the same, at a place that was computed
pub put_same_at : (ps : List Pair) (key : ℕ) (value : ℤ) (d : Pair) (at : ℕ) → at ≡ place ps key → at < length ps → (get_or ps at d).key ≡ key
    → set ps at (record { key = key; value = value }) ≡ put ps key value
put_same_at ps key value d at q =
    subst (λ (n : ℕ). n < length ps → (get_or ps n d).key ≡ key → set ps n (record { key = key; value = value }) ≡ put ps key value) (sym q)
    (put_same ps key value d)

pub put_new_at : (ps : List Pair) (key : ℕ) (value : ℤ) (d : Pair) (at : ℕ) → at ≡ place ps key → (at < length ps → (get_or ps at d).key ≢ key)
    → insert ps at (record { key = key; value = value }) ≡ put ps key value
put_new_at ps key value d at q =
    subst (λ (n : ℕ). (n < length ps → (get_or ps n d).key ≢ key) → insert ps n (record { key = key; value = value }) ≡ put ps key value) (sym q)
    (put_new ps key value d)
