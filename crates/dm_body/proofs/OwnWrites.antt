-- The own write of one key after some ops, and the reads of the later ops.
use Rattle.std.proofs.Common.{ℕ, ℤ, zero, suc, ◌+◌, ◌<◌, ◌≤◌, ◌≡◌, Bool, true, false, ◌==◌, nat_lt, cond, List, [], ◌∷◌, ◌++◌, Option, Some, length, get_or}
use Rattle.std.proofs.Common.{take, drop, refl, sym, ap, ◌∙◌, arith, unwrap_or, ◌&&◌}
use Rattle.std.specs.Prelude.{slice_get}
use Rattle.std.specs.Option.{option_map_or}
use Rattle.std.specs.Int.{w64, int_wrapping_add}
use Rattle.std.proofs.lemmas.Bool.{ltb-true, eqb-true, both_ways, false≢true}
use Rattle.std.proofs.lemmas.List.{append-nil, append_assoc, take_more, drop_more}
use Rattle.dm_event.specs.declared.step.Pair.{Pair}
use Rattle.dm_event.specs.declared.step.Op.{Op}
use Rattle.dm_event.specs.declared.step.Op.TheVariants.{Read, Write, Add}
use Rattle.dm_model.specs.Tests.{same_pair, same_pairs}
use Rattle.dm_model.specs.Values.{written}
use Rattle.dm_model.specs.Bodies.{put, Ran, after_op, run_from, body}
use Rattle.dm_body.proofs.Folds.{body_push}
use Rattle.dm_body.specs.Fitting.{own_after}

-- ---- one key's own write

swap : {X : Type 0} (d e : Bool) (p v w : X) → (d ≡ true → e ≡ true → ⊥) → cond d p (cond e v w) ≡ cond e v (cond d p w)
swap true true p v w h = absurd (h refl refl)
swap true false p v w h = refl
swap false true p v w h = refl
swap false false p v w h = refl

absorb : {X : Type 0} (d e : Bool) (p v w : X) → d ≡ e → cond e v w ≡ cond e v (cond d p w)
absorb d true p v w h = refl
absorb true false p v w h = absurd (both_ways false refl (sym h))
absorb false false p v w h = refl

put_step : (b c : Bool) (p new : Pair) (ps puts : List Pair) (q : ℕ) → (b ≡ true → p.key < new.key) → (c ≡ true → p.key ≡ new.key)
    → written puts q ≡ cond (new.key == q) (Some new.value) (written ps q)
    → written (cond b (p ∷ puts) (cond c (new ∷ ps) (new ∷ (p ∷ ps)))) q ≡ cond (new.key == q) (Some new.value) (written (p ∷ ps) q)
put_step true c p new ps puts q below same rest =
    ap (λ (o : Option ℤ). cond (p.key == q) (Some p.value) o) rest
    ∙ swap (p.key == q) (new.key == q) (Some p.value) (Some new.value) (written ps q) (λ d e.
    let l = below refl in
    let x = eqb-true p.key q d in
    let y = eqb-true new.key q e in
    omega arith)
put_step false true p new ps puts q below same rest =
    absorb (p.key == q) (new.key == q) (Some p.value) (Some new.value) (written ps q) (ap (λ (k : ℕ). k == q) (same refl))
put_step false false p new ps puts q below same rest = refl

-- what is put is the own write of its key, and the other keys keep theirs
pub written-put : (ps : List Pair) (key : ℕ) (value : ℤ) (q : ℕ) → written (put ps key value) q ≡ cond (key == q) (Some value) (written ps q)
written-put [] key value q = refl
written-put (p ∷ ps) key value q =
    put_step (nat_lt p.key key) (p.key == key) p (record { key = key; value = value }) ps (put ps key value) q (ltb-true p.key key) (eqb-true p.key key)
    (written-put ps key value q)

same_when : {X : Type 0} (b : Bool) (x y z : X) → (b ≡ true → x ≡ y) → cond b x z ≡ cond b y z
same_when true x y z h = h refl
same_when false x y z h = refl

-- one op more, seen from one key
pub written-after_op : (f : ℕ → ℤ) (ran : Ran) (op : Op) (key : ℕ) → written (after_op f ran op).writes key ≡ own_after f (written ran.writes key) op key
written-after_op f ran (Read q) key = refl
written-after_op f ran (Write q value) key = written-put ran.writes q value key
written-after_op f ran (Add q by) key =
    written-put ran.writes q (int_wrapping_add w64 (unwrap_or (written ran.writes q) (f q)) by) key
    ∙ same_when (q == key) (Some (int_wrapping_add w64 (unwrap_or (written ran.writes q) (f q)) by))
    (Some (int_wrapping_add w64 (unwrap_or (written ran.writes key) (f key)) by)) (written ran.writes key)
    (λ e. ap (λ (k : ℕ). Some (int_wrapping_add w64 (unwrap_or (written ran.writes k) (f k)) by)) (eqb-true q key e))

-- the body of the ops up to this one
pub body_more : (f : ℕ → ℤ) (ops : List Op) (i : ℕ) (d : Op) → i < length ops → body (take (i + 1) ops) f ≡ after_op f (body (take i ops) f) (get_or ops i d)
body_more f ops i d l = ap (λ (xs : List Op). body xs f) (take_more ops i d l) ∙ body_push f (take i ops) (get_or ops i d)

-- the own write that was found so far, one op later
pub own_more : (f g : ℕ → ℤ) (ops : List Op) (i key : ℕ) (d : Op) (own now : Option ℤ) → i < length ops → g ≡ f → own ≡ written (body (take i ops) f).writes key
    → now ≡ own_after g own (get_or ops i d) key → now ≡ written (body (take (i + 1) ops) f).writes key
own_more f g ops i key d own now l same was is =
    let op = get_or ops i d in
    is ∙ ap (λ (h : ℕ → ℤ). own_after h own op key) same ∙ ap (λ (o : Option ℤ). own_after f o op key) was
    ∙ sym (written-after_op f (body (take i ops) f) op key) ∙ ap (λ (r : Ran). written r.writes key) (sym (body_more f ops i d l))

-- ---- the reads of later ops

-- what the ops read where these are the own writes
abbrev pub reads_after : (ℕ → ℤ) → List Pair → List Op → List Pair
reads_after f writes ops = (run_from f (record { reads = []; writes = writes }) ops).reads

shift : (reads : List Pair) (p : Pair) (more : List Pair) → (reads ++ p ∷ []) ++ more ≡ reads ++ ((p ∷ []) ++ more)
shift reads p more = append_assoc reads (p ∷ []) more

pub reads-run_from : (f : ℕ → ℤ) (reads writes : List Pair) (ops : List Op) → (run_from f (record { reads = reads; writes = writes }) ops).reads ≡ reads
    ++ reads_after f writes ops
reads-run_from f reads writes [] = sym (append-nil reads)
reads-run_from f reads writes (Read key ∷ ops) =
    let p : Pair = record { key = key; value = unwrap_or (written writes key) (f key) } in
    reads-run_from f (reads ++ p ∷ []) writes ops ∙ shift reads p (reads_after f writes ops)
    ∙ ap (λ (xs : List Pair). reads ++ xs) (sym (reads-run_from f (p ∷ []) writes ops))
reads-run_from f reads writes (Write key value ∷ ops) = reads-run_from f reads (put writes key value) ops
reads-run_from f reads writes (Add key by ∷ ops) = reads-run_from f reads (put writes key (int_wrapping_add w64 (unwrap_or (written writes key) (f key)) by))
    ops

-- a read comes in front of those of the later ops
pub reads_after-read : (f : ℕ → ℤ) (writes : List Pair) (key : ℕ) (ops : List Op)
    → reads_after f writes (Read key ∷ ops) ≡ record { key = key; value = unwrap_or (written writes key) (f key) } ∷ reads_after f writes ops
reads_after-read f writes key ops = reads-run_from f (record { key = key; value = unwrap_or (written writes key) (f key) } ∷ []) writes ops

-- the reads of the ops from a place on
abbrev pub reads_from : (ℕ → ℤ) → List Op → ℕ → List Pair
reads_from f ops i = reads_after f (body (take i ops) f).writes (drop i ops)

-- an op that is no read
no_read : (f : ℕ → ℤ) (ran : Ran) (op : Op) (ops : List Op) → ((key : ℕ) → op ≡ Read key → ⊥)
    → reads_after f ran.writes (op ∷ ops) ≡ reads_after f (after_op f ran op).writes ops
no_read f ran (Read key) ops n = absurd (n key refl)
no_read f ran (Write key value) ops n = refl
no_read f ran (Add key by) ops n = refl

pub reads_from-no_read : (f : ℕ → ℤ) (ops : List Op) (i : ℕ) (d : Op) → i < length ops → ((key : ℕ) → get_or ops i d ≡ Read key → ⊥)
    → reads_from f ops i ≡ reads_from f ops (i + 1)
reads_from-no_read f ops i d l n =
    ap (λ (xs : List Op). reads_after f (body (take i ops) f).writes xs) (drop_more ops i d l)
    ∙ no_read f (body (take i ops) f) (get_or ops i d) (drop (i + 1) ops) n
    ∙ ap (λ (r : Ran). reads_after f r.writes (drop (i + 1) ops)) (sym (body_more f ops i d l))

-- what a read of the key gives at this place
abbrev pub read_at : (ℕ → ℤ) → List Op → ℕ → ℕ → Pair
read_at f ops i key = record { key = key; value = unwrap_or (written (body (take i ops) f).writes key) (f key) }

pub reads_from-read : (f : ℕ → ℤ) (ops : List Op) (i key : ℕ) (d : Op) → i < length ops → get_or ops i d ≡ Read key → reads_from f ops i ≡ read_at f ops i key
    ∷ reads_from f ops (i + 1)
reads_from-read f ops i key d l e =
    let ws = (body (take i ops) f).writes in
    ap (λ (xs : List Op). reads_after f ws xs) (drop_more ops i d l)
    ∙ ap (λ (op : Op). reads_after f ws (op ∷ drop (i + 1) ops)) e
    ∙ reads_after-read f ws key (drop (i + 1) ops)
    ∙ ap (λ (r : Ran). read_at f ops i key ∷ reads_after f r.writes (drop (i + 1) ops))
    (sym (body_more f ops i d l ∙ ap (λ (op : Op). after_op f (body (take i ops) f) op) e))

-- whether the pair stands at the place
abbrev pub is_pair_at : List Pair → ℕ → Pair → Bool
is_pair_at pairs n p = option_map_or (λ (q : Pair). same_pair q p) (slice_get pairs n) false

-- two lists compared from a place on
same_from : (xs : List Pair) (n : ℕ) (p : Pair) (ys : List Pair) → same_pairs (drop n xs) (p ∷ ys) ≡ (is_pair_at xs n p && same_pairs (drop (n + 1) xs) ys)
same_from [] zero p ys = refl
same_from [] (suc n) p ys = refl
same_from (x ∷ xs) zero p ys = refl
same_from (x ∷ xs) (suc n) p ys =
    let more : n + 1 ≡ suc n = omega arith in
    let more' : suc n + 1 ≡ suc (suc n) = omega arith in
    same_from xs n p ys ∙ ap (λ (m : ℕ). is_pair_at xs n p && same_pairs (drop m xs) ys) more
    ∙ ap (λ (m : ℕ). is_pair_at xs n p && same_pairs (drop m (x ∷ xs)) ys) (sym more')

pair_within : (xs : List Pair) (n : ℕ) (p : Pair) → is_pair_at xs n p ≡ true → n < length xs
pair_within [] zero p h = absurd (false≢true h)
pair_within [] (suc n) p h = absurd (false≢true h)
pair_within (x ∷ xs) zero p h = omega arith
pair_within (x ∷ xs) (suc n) p h = (let l = pair_within xs n p h in omega arith)

-- what is known where an op reads: the value that is due, and whether the next of the given reads has it
module _ (f g : ℕ → ℤ) (ops : List Op) (reads : List Pair) (i met key : ℕ) (d : Op) (value passed : ℤ) (found : Bool) (within : i < length ops)
    (op_is : get_or ops i d ≡ Read key) (same : g ≡ f) (passed_is : passed ≡ value)
    (value_is : value ≡ unwrap_or (written (body (take i ops) g).writes key) (g key))
    (found_is : found ≡ is_pair_at reads met (record { key = key; value = passed })) where
  found_due : found ≡ is_pair_at reads met (read_at f ops i key)
  found_due =
      found_is ∙ ap (λ (v : ℤ). is_pair_at reads met (record { key = key; value = v }))
      (passed_is ∙ value_is ∙ ap (λ (h : ℕ → ℤ). unwrap_or (written (body (take i ops) h).writes key) (h key)) same)

  now : same_pairs (drop met reads) (reads_from f ops i) ≡ (found && same_pairs (drop (met + 1) reads) (reads_from f ops (i + 1)))
  now =
      ap (λ (ys : List Pair). same_pairs (drop met reads) ys) (reads_from-read f ops i key d within op_is)
      ∙ same_from reads met (read_at f ops i key) (reads_from f ops (i + 1))
      ∙ ap (λ (b : Bool). b && same_pairs (drop (met + 1) reads) (reads_from f ops (i + 1))) (sym found_due)

  pub read_missed : (all : Bool) → found ≡ false → same_pairs (drop met reads) (reads_from f ops i) ≡ all → false ≡ all
  read_missed all h e = sym (ap (λ (b : Bool). b && same_pairs (drop (met + 1) reads) (reads_from f ops (i + 1))) h) ∙ sym now ∙ e

  pub read_met : (all : Bool) → found ≡ true → same_pairs (drop met reads) (reads_from f ops i) ≡ all → (met + 1 ≤ length reads)
      × (same_pairs (drop (met + 1) reads) (reads_from f ops (i + 1)) ≡ all)
  read_met all h e = (
    (let l = pair_within reads met (read_at f ops i key) (sym found_due ∙ h) in omega arith),
    sym (ap (λ (b : Bool). b && same_pairs (drop (met + 1) reads) (reads_from f ops (i + 1))) h) ∙ sym now ∙ e,
  )
