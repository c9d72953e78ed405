-- When a list is the writes of ops.
use Rattle.std.proofs.Common.{ℕ, ℤ, zero, suc, ◌+◌, ◌<◌, ◌≤◌, ◌≡◌, ◌≢◌, Bool, true, false, ◌==◌, nat_lt, cond, List, [], ◌∷◌, Option, Some, None, length}
use Rattle.std.proofs.Common.{get_or, refl, sym, ap, ◌∙◌, subst, arith, inl, inr, ◌⊎◌, unwrap_or, pos}
use Rattle.std.specs.Prelude.{filter_map, is_some}
use Rattle.std.specs.List.{list_all, IsAllAdjacentAnswer, AllAdjacentBelow}
use Rattle.std.specs.Int.{w64, int_wrapping_add}
use Rattle.std.proofs.lemmas.Bool.{ltb-true, lt-ltb, eq-eqb, ne_eqb, cases_eq, cases_lt, cases_order, cases_Bool, both_ways, cond-true, cond-false}
use Rattle.std.proofs.lemmas.Bool.{and_parts, and_from, false≢true}
use Rattle.std.proofs.lemmas.Bool.Decides.{Decides-int_eq}
use Rattle.dm_event.specs.declared.step.Pair.{Pair}
use Rattle.dm_event.specs.declared.step.Op.{Op}
use Rattle.dm_event.specs.declared.step.Op.TheVariants.{Read, Write, Add}
use Rattle.dm_model.proofs.SameValues.{pairs_decide}
use Rattle.dm_model.specs.Tests.{same_pairs}
use Rattle.dm_model.specs.Values.{written}
use Rattle.dm_model.specs.Bodies.{put, Ran, after_op, run_from, body, written_key}
use Rattle.dm_body.proofs.Folds.{Rises, body_rises}
use Rattle.dm_body.specs.Fitting.{is_value}
use Rattle.dm_body.proofs.OwnWrites.{written-put}

-- ---- the tests

same_bools : (r s : Bool) → (r ≡ true → s ≡ true) → (s ≡ true → r ≡ true) → r ≡ s
same_bools true s h k = sym (h refl)
same_bools false true h k = k refl
same_bools false false h k = refl

-- a test that answers whether the lists are one answers as the comparison does
pub same_by : (r : Bool) (xs ys : List Pair) → (r ≡ true → xs ≡ ys) → (xs ≡ ys → r ≡ true) → r ≡ same_pairs xs ys
same_by r xs ys is has =
    let d = pairs_decide xs ys in
    same_bools r (same_pairs xs ys) (λ h. d.1 (is h)) (λ h. has (d.0 h))

-- ---- the keys ascend

rises_from_adjacent : (ps : List Pair) (low : ℕ) → ((p : Pair) → low ≤ (get_or ps 0 p).key) → AllAdjacentBelow (λ x y. true ≡ nat_lt x.key y.key) ps (length ps)
    → Rises low ps
rises_from_adjacent [] low least h = tt
rises_from_adjacent (p ∷ []) low least h = (least p, tt)
rises_from_adjacent (p ∷ q ∷ ps) low least h = (
  least p,
  rises_from_adjacent (q ∷ ps) (suc p.key) (λ d. (let l = ltb-true p.key q.key (sym (h 0 p (omega arith))) in omega arith)) (λ k d l.
      let more : suc k + 1 ≡ suc (k + 1) = omega arith in
      subst (λ (n : ℕ). true ≡ nat_lt (get_or (q ∷ ps) k d).key (get_or (p ∷ q ∷ ps) n d).key) more (h (suc k) d (omega arith))),
)

-- from the first on, so that the place of a pair does not matter
rises_adjacent : (ps : List Pair) (low k : ℕ) (d : Pair) → k + 1 < length ps → Rises low ps → (get_or ps k d).key < (get_or ps (k + 1) d).key
rises_adjacent [] low k d l h = absurd (omega arith)
rises_adjacent (p ∷ []) low k d l h = absurd (omega arith)
rises_adjacent (p ∷ q ∷ ps) low zero d l h = h.1.0
rises_adjacent (p ∷ q ∷ ps) low (suc k) d l h =
    let more : suc (k + 1) ≡ suc k + 1 = omega arith in
    subst (λ (n : ℕ). (get_or (q ∷ ps) k d).key < (get_or (p ∷ q ∷ ps) n d).key) more (rises_adjacent (q ∷ ps) (suc p.key) k d (omega arith) h.1)

pub ascends_is : (r : Bool) (ps : List Pair) → IsAllAdjacentAnswer (λ x y b. b ≡ nat_lt x.key y.key) ps r → (r ≡ true → Rises 0 ps) × (Rises 0 ps → r ≡ true)
ascends_is true ps h = (λ e. rises_from_adjacent ps 0 (λ p. omega arith) h, λ s. refl)
ascends_is false ps h = (
  λ e. absurd (false≢true e),
  λ s. absurd (
      let p : Pair = record { key = 0; value = pos 0 } in
      let l = rises_adjacent ps 0 h.0 p h.1 s in
      let n = h.2 p in
      false≢true (n ∙ lt-ltb (get_or ps h.0 p).key (get_or ps (h.0 + 1) p).key l)),
)

-- ---- lists with the same own writes

none_below : (ps : List Pair) (low key : ℕ) → key < low → Rises low ps → written ps key ≡ None
none_below [] low key l h = refl
none_below (p ∷ ps) low key l h =
    cond-false (p.key == key) (Some p.value) (written ps key) (ne_eqb p.key key (λ e. (let a = h.0 in omega arith)))
    ∙ none_below ps (suc p.key) key (let a = h.0 in omega arith) h.1

at_first : (p : Pair) (ps : List Pair) → written (p ∷ ps) p.key ≡ Some p.value
at_first p ps = cond-true (p.key == p.key) (Some p.value) (written ps p.key) (eq-eqb p.key p.key refl)

past_first : (p : Pair) (ps : List Pair) (key : ℕ) → p.key ≢ key → written (p ∷ ps) key ≡ written ps key
past_first p ps key n = cond-false (p.key == key) (Some p.value) (written ps key) (ne_eqb p.key key n)

none_some : {X : Type 0} (x : X) → None ≡ Some x → ⊥
none_some x e = cc

same_some : {X : Type 0} (x y : X) → Some x ≡ Some y → x ≡ y
same_some x y e = cc

-- ascending pairs are known by the value of each key
pub same_from_written : (xs ys : List Pair) (low high : ℕ) → Rises low xs → Rises high ys → ((key : ℕ) → written xs key ≡ written ys key) → xs ≡ ys
same_from_written [] [] low high r s h = refl
same_from_written [] (y ∷ ys) low high r s h = absurd (none_some y.value (h y.key ∙ at_first y ys))
same_from_written (x ∷ xs) [] low high r s h = absurd (none_some x.value (sym (h x.key) ∙ at_first x xs))
same_from_written (x ∷ xs) (y ∷ ys) low high r s h = elim (cases_order x.key y.key) [
  | inl e ↦ (
      let v : x.value ≡ y.value = same_some x.value y.value (sym (at_first x xs) ∙ h x.key ∙ ap (λ (k : ℕ). written (y ∷ ys) k) e ∙ at_first y ys) in
      let heads : x ≡ y = λ i. record { key = e i; value = v i } in
      let tails : xs ≡ ys = same_from_written xs ys (suc x.key) (suc y.key) r.1 s.1 (λ key. elim (cases_eq x.key key) [
        | inl at ↦ none_below xs (suc x.key) key (omega arith) r.1 ∙ sym (none_below ys (suc y.key) key (omega arith) s.1)
        | inr n ↦ sym (past_first x xs key n) ∙ h key ∙ past_first y ys key (λ at. n (e ∙ at))
      ]) in
      λ i. heads i ∷ tails i)
  | inr o ↦ elim o [
    | inl l ↦ absurd (none_some x.value (sym (none_below (y ∷ ys) y.key x.key l (omega arith, s.1)) ∙ sym (h x.key) ∙ at_first x xs))
    | inr g ↦ absurd (none_some y.value (sym (none_below (x ∷ xs) x.key y.key g (omega arith, r.1)) ∙ h y.key ∙ at_first y ys))
  ]
]

-- ---- each pair is the own write of its key

value_is : (o : Option ℤ) (value : ℤ) → is_value o value ≡ true → o ≡ Some value
value_is None value h = absurd (false≢true h)
value_is (Some own) value h = ap (λ (v : ℤ). Some v) ((Decides-int_eq own value).0 h)

value_same : (o : Option ℤ) (value : ℤ) → o ≡ Some value → is_value o value ≡ true
value_same None value e = absurd (none_some value e)
value_same (Some own) value e = (Decides-int_eq own value).1 (same_some own value e)

abbrev pub are_own : (ℕ → Option ℤ) → List Pair → Bool
are_own own ps = list_all (λ p. is_value (own p.key) p.value) ps

-- what the pairs give a key is then its own write
own_from_pairs : (own : ℕ → Option ℤ) (ps : List Pair) (key : ℕ) (value : ℤ) → are_own own ps ≡ true → written ps key ≡ Some value → own key ≡ Some value
own_from_pairs own [] key value h e = absurd (none_some value e)
own_from_pairs own (p ∷ ps) key value h e =
    let both = and_parts (is_value (own p.key) p.value) (are_own own ps) h in
    elim (cases_eq p.key key) [
      | inl at ↦ (
          let first : written (p ∷ ps) key ≡ Some p.value = cond-true (p.key == key) (Some p.value) (written ps key) (eq-eqb p.key key at) in
          ap own (sym at) ∙ value_is (own p.key) p.value both.0 ∙ sym first ∙ e)
      | inr n ↦ own_from_pairs own ps key value both.1 (sym (past_first p ps key n) ∙ e)
    ]

-- and the pairs that give each key its own write pass
pairs_own : (own : ℕ → Option ℤ) (ps : List Pair) (low : ℕ) → Rises low ps → ((key : ℕ) (value : ℤ) → written ps key ≡ Some value → own key ≡ Some value)
    → are_own own ps ≡ true
pairs_own own [] low r h = refl
pairs_own own (p ∷ ps) low r h =
    and_from (is_value (own p.key) p.value) (are_own own ps) (value_same (own p.key) p.value (h p.key p.value (at_first p ps)))
    (pairs_own own ps (suc p.key) r.1 (λ key value e. elim (cases_lt key (suc p.key)) [
      | inl l ↦ absurd (none_some value (sym (none_below ps (suc p.key) key l r.1) ∙ e))
      | inr g ↦ h key value (past_first p ps key (λ at. omega arith) ∙ e)
    ]))

-- ---- the keys that the ops write

abbrev pub have_each : (ℕ → Bool) → List Op → Bool
have_each has ops = list_all has (filter_map written_key ops)

-- a key that no op writes keeps its own write
unwritten_put : (has : ℕ → Bool) (ps : List Pair) (q : ℕ) (value : ℤ) (key : ℕ) → has q ≡ true → has key ≡ false → written (put ps q value) key ≡ written ps key
unwritten_put has ps q value key h n =
    written-put ps q value key ∙ cond-false (q == key) (Some value) (written ps key) (ne_eqb q key (λ e. both_ways (has key) n (ap has (sym e) ∙ h)))

unwritten : (f : ℕ → ℤ) (has : ℕ → Bool) (ran : Ran) (ops : List Op) (key : ℕ) → have_each has ops ≡ true → has key ≡ false
    → written (run_from f ran ops).writes key ≡ written ran.writes key
unwritten f has ran [] key h n = refl
unwritten f has ran (Read q ∷ ops) key h n = unwritten f has (after_op f ran (Read q)) ops key h n
unwritten f has ran (Write q value ∷ ops) key h n =
    let both = and_parts (has q) (have_each has ops) h in
    unwritten f has (after_op f ran (Write q value)) ops key both.1 n ∙ unwritten_put has ran.writes q value key both.0 n
unwritten f has ran (Add q by ∷ ops) key h n =
    let both = and_parts (has q) (have_each has ops) h in
    unwritten f has (after_op f ran (Add q by)) ops key both.1 n ∙ unwritten_put has ran.writes q
    (int_wrapping_add w64 (unwrap_or (written ran.writes q) (f q)) by) key both.0 n

abbrev pub has_key : List Pair → ℕ → Bool
has_key ps key = is_some (written ps key)

some_when : {X : Type 0} (b : Bool) (x : X) (o : Option X) → (b ≡ true) ⊎ (is_some o ≡ true) → is_some (cond b (Some x) o) ≡ true
some_when true x o h = refl
some_when false x o (inl h) = absurd (false≢true h)
some_when false x o (inr h) = h

put_has : (ps : List Pair) (q : ℕ) (value : ℤ) (key : ℕ) → (q ≡ key) ⊎ (has_key ps key ≡ true) → has_key (put ps q value) key ≡ true
put_has ps q value key h =
    ap (λ (o : Option ℤ). is_some o) (written-put ps q value key)
    ∙ some_when (q == key) value (written ps key) (elim h [ inl e ↦ inl (eq-eqb q key e) | inr k ↦ inr k ])

-- a key that has an own write keeps one
kept : (f : ℕ → ℤ) (ran : Ran) (ops : List Op) (key : ℕ) → has_key ran.writes key ≡ true → has_key (run_from f ran ops).writes key ≡ true
kept f ran [] key h = h
kept f ran (Read q ∷ ops) key h = kept f (after_op f ran (Read q)) ops key h
kept f ran (Write q value ∷ ops) key h = kept f (after_op f ran (Write q value)) ops key (put_has ran.writes q value key (inr h))
kept f ran (Add q by ∷ ops) key h = kept f (after_op f ran (Add q by)) ops key
    (put_has ran.writes q (int_wrapping_add w64 (unwrap_or (written ran.writes q) (f q)) by) key (inr h))

-- each key that an op writes has an own write
all_kept : (f : ℕ → ℤ) (ran : Ran) (ops : List Op) → have_each (has_key (run_from f ran ops).writes) ops ≡ true
all_kept f ran [] = refl
all_kept f ran (Read q ∷ ops) = all_kept f (after_op f ran (Read q)) ops
all_kept f ran (Write q value ∷ ops) =
    let next = after_op f ran (Write q value) in
    and_from (has_key (run_from f next ops).writes q) (have_each (has_key (run_from f next ops).writes) ops)
    (kept f next ops q (put_has ran.writes q value q (inl refl))) (all_kept f next ops)
all_kept f ran (Add q by ∷ ops) =
    let next = after_op f ran (Add q by) in
    and_from (has_key (run_from f next ops).writes q) (have_each (has_key (run_from f next ops).writes) ops)
    (kept f next ops q (put_has ran.writes q (int_wrapping_add w64 (unwrap_or (written ran.writes q) (f q)) by) q (inl refl))) (all_kept f next ops)

-- ---- the writes of ops

none_from : {X : Type 0} (o : Option X) → is_some o ≡ false → o ≡ None
none_from None h = refl
none_from (Some x) h = absurd (false≢true (sym h))

value_from : {X : Type 0} (o : Option X) → is_some o ≡ true → (x : X) × (o ≡ Some x)
value_from None h = absurd (false≢true h)
value_from (Some x) h = (x, refl)

module _ (f : ℕ → ℤ) (ops : List Op) (writes : List Pair) where
  -- ascending pairs that pass both tests are the writes
  pub writes_are : Rises 0 writes → have_each (has_key writes) ops ≡ true → are_own (written (body ops f).writes) writes ≡ true → writes ≡ (body ops f).writes
  writes_are r keys own = same_from_written writes (body ops f).writes 0 0 r (body_rises ops f) (λ key. elim (cases_Bool (has_key writes key)) [
    | inl some ↦ (
        let v = value_from (written writes key) some in
        v.1 ∙ sym (own_from_pairs (written (body ops f).writes) writes key v.0 own v.1))
    | inr none ↦ none_from (written writes key) none ∙ sym (unwritten f (has_key writes) (record { reads = []; writes = [] }) ops key keys none)
  ])

  -- and the writes are ascending pairs that pass both
  pub writes_rise : writes ≡ (body ops f).writes → Rises 0 writes
  writes_rise e = subst (λ (ps : List Pair). Rises 0 ps) (sym e) (body_rises ops f)

  pub writes_have : writes ≡ (body ops f).writes → have_each (has_key writes) ops ≡ true
  writes_have e = subst (λ (ps : List Pair). have_each (has_key ps) ops ≡ true) (sym e) (all_kept f (record { reads = []; writes = [] }) ops)

  pub writes_own : writes ≡ (body ops f).writes → are_own (written (body ops f).writes) writes ≡ true
  writes_own e = subst (λ (ps : List Pair). are_own (written (body ops f).writes) ps ≡ true) (sym e)
      (pairs_own (written (body ops f).writes) (body ops f).writes 0 (body_rises ops f) (λ key value h. h))
