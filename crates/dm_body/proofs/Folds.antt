-- A body op by op, and the order of its writes.
use Rattle.std.proofs.Common.{ℕ, ℤ, zero, suc, ◌+◌, ◌<◌, ◌≤◌, ◌≡◌, Bool, true, false, ◌==◌, nat_lt, cond, List, [], ◌∷◌, ◌++◌, map, get_or, refl, sym, subst}
use Rattle.std.proofs.Common.{arith}
use Rattle.std.specs.List.Sorted.{IsStrictlyIncreasing}
use Rattle.std.specs.Int.{w64, int_wrapping_add}
use Rattle.std.proofs.lemmas.Bool.{ltb-true, ltb-false, eqb-true, eqb-false, lt-ltb, and_from}
use Rattle.dm_event.specs.declared.step.Pair.{Pair}
use Rattle.dm_event.specs.declared.step.Op.{Op}
use Rattle.dm_event.specs.declared.step.Op.TheVariants.{Read, Write, Add}
use Rattle.dm_model.specs.Shape.{is_ascending}
use Rattle.dm_model.specs.Bodies.{put, read_value, Ran, after_op, run_from, body}

-- ---- more ops

pub run_from-append : (f : ℕ → ℤ) (ran : Ran) (xs ys : List Op) → run_from f ran (xs ++ ys) ≡ run_from f (run_from f ran xs) ys
run_from-append f ran [] ys = refl
run_from-append f ran (op ∷ xs) ys = run_from-append f (after_op f ran op) xs ys

-- an op more is one turn more
pub body_push : (f : ℕ → ℤ) (ops : List Op) (op : Op) → body (ops ++ op ∷ []) f ≡ after_op f (body ops f) op
body_push f ops op = run_from-append f (record { reads = []; writes = [] }) ops (op ∷ [])

-- ---- the order of the writes

-- the keys ascend strictly, from the bound on
abbrev pub Rises : ℕ → List Pair → Type 0
Rises low [] = Unit {0}
Rises low (p ∷ ps) = (low ≤ p.key) × Rises (suc p.key) ps

put_step : (b c : Bool) (p new : Pair) (ps puts : List Pair) (low : ℕ) → (b ≡ true → p.key < new.key) → (b ≡ false → new.key ≤ p.key)
    → (c ≡ true → p.key ≡ new.key) → (c ≡ false → p.key ≡ new.key → ⊥) → low ≤ new.key → (suc p.key ≤ new.key → Rises (suc p.key) puts) → Rises low (p ∷ ps)
    → Rises low (cond b (p ∷ puts) (cond c (new ∷ ps) (new ∷ (p ∷ ps))))
put_step true c p new ps puts low lt ge is not le rest h = (h.0, rest (lt refl))
put_step false true p new ps puts low lt ge is not le rest h = (le, subst (λ (k : ℕ). Rises (suc k) ps) (is refl) h.1)
put_step false false p new ps puts low lt ge is not le rest h =
    let g : new.key ≤ p.key = ge refl in
    let n = not refl in
    (le, (omega arith, h.1))

pub put_rises : (ps : List Pair) (key : ℕ) (value : ℤ) (low : ℕ) → low ≤ key → Rises low ps → Rises low (put ps key value)
put_rises [] key value low le h = (le, tt)
put_rises (p ∷ ps) key value low le h =
    put_step (nat_lt p.key key) (p.key == key) p (record { key = key; value = value }) ps (put ps key value) low (ltb-true p.key key) (ltb-false p.key key)
    (eqb-true p.key key) (eqb-false p.key key) le (λ l. put_rises ps key value (suc p.key) l h.1) h

op_rises : (f : ℕ → ℤ) (ran : Ran) (op : Op) → Rises 0 ran.writes → Rises 0 (after_op f ran op).writes
op_rises f ran (Read key) h = h
op_rises f ran (Write key value) h = put_rises ran.writes key value 0 (omega arith) h
op_rises f ran (Add key by) h = put_rises ran.writes key (int_wrapping_add w64 (read_value f ran key) by) 0 (omega arith) h

pub run_rises : (f : ℕ → ℤ) (ran : Ran) (ops : List Op) → Rises 0 ran.writes → Rises 0 (run_from f ran ops).writes
run_rises f ran [] h = h
run_rises f ran (op ∷ ops) h = run_rises f (after_op f ran op) ops (op_rises f ran op h)

pub body_rises : (ops : List Op) (f : ℕ → ℤ) → Rises 0 (body ops f).writes
body_rises ops f = run_rises f (record { reads = []; writes = [] }) ops tt

abbrev pub keys_of : List Pair → List ℕ
keys_of ps = map (λ (p : Pair). p.key) ps

pub rises_ascend : (ps : List Pair) (low : ℕ) → Rises low ps → is_ascending (keys_of ps) ≡ true
rises_ascend [] low h = refl
rises_ascend (p ∷ []) low h = refl
rises_ascend (p ∷ q ∷ ps) low h =
    and_from (nat_lt p.key q.key) (is_ascending (keys_of (q ∷ ps))) (lt-ltb p.key q.key h.1.0) (rises_ascend (q ∷ ps) (suc p.key) h.1)

pub rises_increase : (ps : List Pair) (low : ℕ) → Rises low ps → IsStrictlyIncreasing (keys_of ps)
rises_increase [] low h k l = absurd (omega arith)
rises_increase (p ∷ []) low h k l = absurd (omega arith)
rises_increase (p ∷ q ∷ ps) low h zero l = h.1.0
rises_increase (p ∷ q ∷ ps) low h (suc k) l =
    let more : suc k + 1 ≡ suc (k + 1) = omega arith in
    subst (λ (n : ℕ). get_or (keys_of (q ∷ ps)) k 0 < get_or (keys_of (p ∷ q ∷ ps)) n 0) (sym more) (rises_increase (q ∷ ps) (suc p.key) h.1 k (omega arith))
