-- What stands in a legal history was allowed when it came: what holds of each step that is allowed holds of each act, and of what is pending. So an
-- entry writes a key at least, and only keys that its attempt declared, in ascending order.
use Rattle.std.proofs.Common.{ℕ, ℤ, ◌<◌, ◌≤◌, ◌≡◌, ◌==◌, Bool, true, false, if◌then◌else◌, List, [], ◌∷◌, ◌++◌, Option}
use Rattle.std.proofs.Common.{Some, None, length, map, refl, sym, ◌∙◌}
use Rattle.std.proofs.Common.{subst, arith, inl, inr, nat_lt, nat_le, unwrap_or}
use Rattle.std.proofs.lemmas.Bool.{cases_eq, eqb-true, eq-eqb, false≢true, and_parts, or_cases, or_left, or_right, ltb-true, leb-true}
use Rattle.std.proofs.lemmas.List.{length-map}
use Rattle.std.specs.List.{AllByRecursion as Each, list_all}
use Rattle.std.specs.Option.{option_or}
use Rattle.std.specs.Prelude.{filter_map, option_map, option_to_list, IfSome}
use Rattle.dm_event.specs.Layout.{Layout, is_site, is_key}
use Rattle.dm_event.specs.declared.limits.TheConstants.{MAX_KEYS}
use Rattle.dm_event.specs.declared.step.Entry.{Entry}
use Rattle.dm_event.specs.declared.step.Found.TheVariants.{Clean, Kept, Lost}
use Rattle.dm_event.specs.declared.step.Op.{Op}
use Rattle.dm_event.specs.declared.step.Op.TheVariants.{Read, Write, Add}
use Rattle.dm_event.specs.declared.step.Pair.{Pair}
use Rattle.dm_event.specs.declared.step.Pending.{Pending}
use Rattle.dm_event.specs.declared.step.Pending.TheVariants as pending
use Rattle.dm_event.specs.declared.step.Step.{Step}
use Rattle.dm_event.specs.declared.step.Step.TheVariants.{Commit, Release, Grant, Doubt, Restart}
use Rattle.dm_event.specs.declared.step.TxnId.{TxnId}
use Rattle.dm_event.specs.declared.step.Want.{Want}
use Rattle.dm_event.specs.declared.step.Want.TheVariants as want
use Rattle.dm_model.proofs.ClausesHold.{none_parts}
use Rattle.dm_model.proofs.Judged.{judged, shape_of}
use Rattle.dm_model.proofs.KeysAndBodies.{has_key, body_writes, all_declared}
use Rattle.dm_model.proofs.LegalSteps.{LegalCommit, legal_commit}
use Rattle.dm_model.specs.Acts.{acts, entries, entry_of}
use Rattle.dm_model.specs.Allowed.{Allowed, clauses}
use Rattle.dm_model.specs.Attempts.{Routing, routing, wanted_keys, declared}
use Rattle.dm_model.specs.Bodies.{Ran, put, after_op, run_from, has_writes}
use Rattle.dm_model.specs.Clauses.{first}
use Rattle.dm_model.specs.Doubts.{pending_at, step_of}
use Rattle.dm_model.specs.Legal.{LegalPast}
use Rattle.dm_model.specs.Shape.{is_ascending, is_want, is_entry, is_txn, is_vector, are_ops, are_pairs}
use Rattle.dm_model.specs.Tests.{is_among}
use Rattle.dm_model.specs.Values.{value}
use Rattle.dm_steps.proofs.Legality.{fitting_route}

-- ---- acts

-- a step in doubt is judged as the step itself
doubt_allowed : (layout : Layout) (past : List Step) (site : ℕ) (p : Pending) → Allowed layout past (Doubt site p) → Allowed layout past (step_of site p)
doubt_allowed layout past site (pending.Commit e) h =
    let shape = and_parts (is_site layout site) _ (shape_of layout past (Doubt site (pending.Commit e)) h) in
    judged layout past (Commit e) (Commit e) refl (and_parts (is_entry layout e) _ shape.1).0
    ∙ (none_parts _ (first (clauses layout past (Commit e))) h).1
doubt_allowed layout past site (pending.Release part epoch to vector) h =
    judged layout past (Release site part epoch to vector) (Release site part epoch to vector) refl
    (shape_of layout past (Doubt site (pending.Release part epoch to vector)) h)
    ∙ (none_parts _ (first (clauses layout past (Release site part epoch to vector))) h).1
doubt_allowed layout past site (pending.Grant part epoch vector) h =
    judged layout past (Grant site part epoch vector) (Grant site part epoch vector) refl
    (shape_of layout past (Doubt site (pending.Grant part epoch vector)) h)
    ∙ (none_parts _ (first (clauses layout past (Grant site part epoch vector))) h).1

module _ (layout : Layout) (P : Step → Type 0) (holds : (past : List Step) (s : Step) → LegalPast layout past → Allowed layout past s → P s) where
  pub pending_hold : (past : List Step) → LegalPast layout past → (site : ℕ) → IfSome (pending_at site past) (λ p. P (step_of site p))
  pending_hold [] h site = tt
  pending_hold (Doubt at p ∷ past) h site =
      by_test (at == site) refl (holds past (step_of at p) h.0 (doubt_allowed layout past at p h.1)) (pending_hold past h.0 site)
    where
      by_test : (b : Bool) → (at == site) ≡ b → P (step_of at p) → IfSome (pending_at site past) (λ q. P (step_of site q))
          → IfSome (option_or (if b then Some p else None) (pending_at site past)) (λ q. P (step_of site q))
      by_test true e x y = subst (λ (i : ℕ). P (step_of i p)) (eqb-true at site e) x
      by_test false e x y = y
  pending_hold (other ∷ past) h site = pending_hold past h.0 site

  kept_hold : (site : ℕ) (o : Option Pending) (steps : List Step) → IfSome o (λ p. P (step_of site p)) → Each P steps
      → Each P (option_to_list (option_map (step_of site) o) ++ steps)
  kept_hold site None steps p h = h
  kept_hold site (Some q) steps p h = (p, h)

  pub acts_hold : (past : List Step) → LegalPast layout past → Each P (acts past)
  acts_hold [] h = tt
  acts_hold (Commit e ∷ past) h = (holds past (Commit e) h.0 h.1, acts_hold past h.0)
  acts_hold (Release site part epoch to vector ∷ past) h = (holds past (Release site part epoch to vector) h.0 h.1, acts_hold past h.0)
  acts_hold (Grant site part epoch vector ∷ past) h = (holds past (Grant site part epoch vector) h.0 h.1, acts_hold past h.0)
  acts_hold (Restart site vector Kept ∷ past) h = kept_hold site (pending_at site past) (acts past) (pending_hold past h.0 site) (acts_hold past h.0)
  acts_hold (Restart site vector Clean ∷ past) h = acts_hold past h.0
  acts_hold (Restart site vector Lost ∷ past) h = acts_hold past h.0
  acts_hold (other ∷ past) h = acts_hold past h.0

-- ---- ascending keys among others

rest_ascends : (x : ℕ) (xs : List ℕ) → is_ascending (x ∷ xs) ≡ true → is_ascending xs ≡ true
rest_ascends x [] h = refl
rest_ascends x (y ∷ xs) h = (and_parts (nat_lt x y) (is_ascending (y ∷ xs)) h).1

above : (x : ℕ) (xs : List ℕ) → is_ascending (x ∷ xs) ≡ true → (z : ℕ) → is_among xs z ≡ true → x < z
above x [] h z m = absurd (false≢true m)
above x (y ∷ xs) h z m =
    let p = and_parts (nat_lt x y) (is_ascending (y ∷ xs)) h in
    let l = ltb-true x y p.0 in
    elim (or_cases (y == z) (is_among xs z) m) [
      | inl e ↦ (let q = eqb-true y z e in omega (arith, l, q))
      | inr n ↦ (let q = above y xs p.1 z n in omega (arith, l, q))
    ]

among_fewer : (xs ys : List ℕ) → is_ascending xs ≡ true → is_ascending ys ≡ true → ((z : ℕ) → is_among xs z ≡ true → is_among ys z ≡ true)
    → length xs ≤ length ys
among_fewer [] ys a b h = omega arith
among_fewer (x ∷ xs) [] a b h = absurd (false≢true (h x (or_left (x == x) (is_among xs x) (eq-eqb x x refl))))
among_fewer (x ∷ xs) (y ∷ ys) a b h = elim (cases_eq x y) [
  | inl e ↦ (let r = among_fewer xs ys (rest_ascends x xs a) (rest_ascends y ys b)
      (λ z m. elim (or_cases (y == z) (is_among ys z) (h z (or_right (x == z) (is_among xs z) m))) [
        | inl q ↦ absurd (let l = above x xs a z m in let k = eqb-true y z q in omega (arith, l, k, e))
        | inr n ↦ n
      ]) in omega (arith, r))
  | inr n ↦ (
      let first : is_among ys x ≡ true = elim (or_cases (y == x) (is_among ys x) (h x (or_left (x == x) (is_among xs x) (eq-eqb x x refl)))) [
        | inl q ↦ absurd (n (sym (eqb-true y x q)))
        | inr k ↦ k
      ] in
      let low = above y ys b x first in
      let r = among_fewer (x ∷ xs) ys a (rest_ascends y ys b) (λ z m. elim (or_cases (y == z) (is_among ys z) (h z m)) [
        | inl q ↦ absurd (let k = eqb-true y z q in elim (or_cases (x == z) (is_among xs z) m) [
          | inl e ↦ (let f = eqb-true x z e in omega (arith, low, k, f))
          | inr i ↦ (let l = above x xs a z i in omega (arith, low, k, l))
        ])
        | inr k ↦ k
      ]) in
      omega (arith, r)
      )
]

key_among : (ps : List Pair) (z : ℕ) → is_among (map (λ (p : Pair). p.key) ps) z ≡ true → has_key ps z ≡ true
key_among [] z m = m
key_among (p ∷ ps) z m = elim (or_cases (p.key == z) (is_among (map (λ (q : Pair). q.key) ps) z) m) [
  | inl e ↦ or_left (p.key == z) _ e
  | inr n ↦ or_right (p.key == z) _ (key_among ps z n)
]

-- ---- what ops with a write leave

put_some : (ps : List Pair) (key : ℕ) (value : ℤ) → 1 ≤ length (put ps key value)
put_some [] key value = omega arith
put_some (p ∷ ps) key value = by_test (nat_lt p.key key) (p.key == key)
  where
    by_test : (a b : Bool) → 1 ≤ length (if a then p ∷ put ps key value
        else (if b then record { key = key; value = value } ∷ ps else record { key = key; value = value } ∷ (p ∷ ps)))
    by_test true b = omega arith
    by_test false true = omega arith
    by_test false false = omega arith

writes_stay : (f : ℕ → ℤ) (ran : Ran) (ops : List Op) → 1 ≤ length ran.writes → 1 ≤ length (run_from f ran ops).writes
writes_stay f ran [] h = h
writes_stay f ran (Read key ∷ ops) h = writes_stay f (after_op f ran (Read key)) ops h
writes_stay f ran (Write key value ∷ ops) h = writes_stay f (after_op f ran (Write key value)) ops (put_some ran.writes key value)
writes_stay f ran (Add key by ∷ ops) h = writes_stay f (after_op f ran (Add key by)) ops (put_some ran.writes key _)

some_run : (f : ℕ → ℤ) (ran : Ran) (ops : List Op) → has_writes ops ≡ true → 1 ≤ length (run_from f ran ops).writes
some_run f ran [] h = absurd (false≢true h)
some_run f ran (Read key ∷ ops) h = some_run f (after_op f ran (Read key)) ops h
some_run f ran (Write key value ∷ ops) h = writes_stay f (after_op f ran (Write key value)) ops (put_some ran.writes key value)
some_run f ran (Add key by ∷ ops) h = writes_stay f (after_op f ran (Add key by)) ops (put_some ran.writes key _)

some_write : (layout : Layout) (past : List Step) (e : Entry) → LegalCommit layout past e → 1 ≤ length e.writes
some_write layout past e l =
    subst (λ (ps : List Pair). 1 ≤ length ps) (sym l.writes)
    (some_run (λ key. value layout past key e.begin) (record { reads = []; writes = [] }) e.ops l.changes)

-- ---- what an entry writes

record Declares (keys : List ℕ) : Type 0 where
  ascend : is_ascending keys ≡ true
  few : length keys ≤ MAX_KEYS

-- what is wanted of an entry's writes
pub record Small (e : Entry) : Type 0 where
  pub some : 1 ≤ length e.writes
  pub few : length e.writes ≤ MAX_KEYS
  pub ascends : is_ascending (map (λ (p : Pair). p.key) e.writes) ≡ true

module _ (layout : Layout) (past : List Step) (legal : LegalPast layout past) where
  declares : (t : TxnId) → Declares (declared t past)
  declares t = by_route (routing t past) refl
    where
      by_want : (w : Want) → is_want layout w ≡ true → Declares (wanted_keys w)
      by_want (want.Txn keys) h =
          let p = and_parts (is_ascending keys) _ h in
          let q = and_parts (nat_le (length keys) MAX_KEYS) (list_all (is_key layout) keys) p.1 in
          record { ascend = p.0; few = leb-true (length keys) MAX_KEYS q.0 }
      by_want (want.Place part) h = record { ascend = refl; few = omega arith }
      by_want want.Restart h = record { ascend = refl; few = omega arith }

      by_route : (o : Option Routing) → routing t past ≡ o → Declares (unwrap_or (option_map (λ r. wanted_keys r.want) o) [])
      by_route None e = record { ascend = refl; few = omega arith }
      by_route (Some r) e = by_want r.want (fitting_route layout _ past legal r e).wants

  -- what is written is declared
  pub written_declared : (e : Entry) → LegalCommit layout past e
      → (key : ℕ) → is_among (map (λ (p : Pair). p.key) e.writes) key ≡ true → is_among (declared e.txn past) key ≡ true
  written_declared e l key m =
      all_declared (declared e.txn past) e.ops l.declares key
      (body_writes (λ k. value layout past k e.begin) e.ops key (subst (λ (ps : List Pair). has_key ps key ≡ true) l.writes (key_among e.writes key m)))

  pub small : (e : Entry) → is_entry layout e ≡ true → LegalCommit layout past e → Small e
  small e shape l =
      let s1 = (and_parts (is_txn layout e.txn) _ shape).1 in
      let s2 = (and_parts (is_site layout e.origin) _ s1).1 in
      let s3 = (and_parts (is_vector layout e.begin) _ s2).1 in
      let s4 = (and_parts (are_ops layout e.ops) _ s3).1 in
      let s5 = (and_parts (are_pairs layout e.reads) _ s4).1 in
      let up = (and_parts (are_pairs layout e.writes) (is_ascending (map (λ (p : Pair). p.key) e.writes)) s5).1 in
      let d = declares e.txn in
      let f = among_fewer (map (λ (p : Pair). p.key) e.writes) (declared e.txn past) up d.ascend (written_declared e l) in
      let n : length (map (λ (p : Pair). p.key) e.writes) ≡ length e.writes = length-map e.writes (λ (p : Pair). p.key) in
      record { some = some_write layout past e l; few = (let most = d.few in omega (arith, f, n, most)); ascends = up }

  pub commit_small : (e : Entry) → Allowed layout past (Commit e) → Small e
  commit_small e a = small e (shape_of layout past (Commit e) a) (legal_commit layout past e a)

-- what is wanted of the writes of an entry, said of a step
abbrev OfEntry : (Entry → Type 0) → Step → Type 0
OfEntry P (Commit e) = P e
OfEntry P other = Unit {0}

entries_of : (P : Entry → Type 0) (steps : List Step) → Each (OfEntry P) steps → Each P (filter_map entry_of steps)
entries_of P [] h = tt
entries_of P (Commit e ∷ steps) h = (h.0, entries_of P steps h.1)
entries_of P (other ∷ steps) h = entries_of P steps h.1

step_small : (layout : Layout) (past : List Step) (s : Step) → LegalPast layout past → Allowed layout past s → OfEntry Small s
step_small layout past (Commit e) h a = commit_small layout past h e a
step_small layout past other h a = tt

pub entries_small : (layout : Layout) (past : List Step) → LegalPast layout past → Each Small (entries past)
entries_small layout past h = entries_of Small (acts past) (acts_hold layout (OfEntry Small) (step_small layout) past h)

abbrev pub IsSmall : Pending → Type 0
IsSmall (pending.Commit e) = Small e
IsSmall (pending.Release part epoch to vector) = Unit {0}
IsSmall (pending.Grant part epoch vector) = Unit {0}

pub pending_small : (layout : Layout) (past : List Step) → LegalPast layout past → (site : ℕ) → IfSome (pending_at site past) IsSmall
pending_small layout past h site = by (pending_at site past) (pending_hold layout (OfEntry Small) (step_small layout) past h site)
  where
    by : (o : Option Pending) → IfSome o (λ p. OfEntry Small (step_of site p)) → IfSome o IsSmall
    by None h = tt
    by (Some (pending.Commit e)) h = h
    by (Some (pending.Release part epoch to vector)) h = tt
    by (Some (pending.Grant part epoch vector)) h = tt
