-- What a running attempt may do.
use Rattle.std.proofs.Common.{ℕ, ℤ, ◌+◌, ◌≤◌, ◌≡◌, Bool, true, false, not, ◌==◌, nat_lt, cond, List, [], ◌∷◌, ◌++◌, Option, Some, None, length, refl, sym}
use Rattle.std.proofs.Common.{ap, ◌∙◌, subst, arith}
use Rattle.std.proofs.Common.{find, map, unwrap_or}
use Rattle.std.proofs.lemmas.Bool.{eq-eqb, false≢true, and_parts, and_from, or_right, le-leb}
use Rattle.std.specs.Cmp.Lexicographic.{bytes_decides}
use Rattle.std.specs.List.{list_all, AllByRecursion as Each}
use Rattle.std.specs.Option.{option_or}
use Rattle.std.specs.Prelude.{is_some, option_map}
use Rattle.dm_body.proofs.Folds.{body_rises, rises_ascend}
use Rattle.dm_body.specs.Progress.{Progress}
use Rattle.dm_event.specs.Layout.{Layout, is_site, is_key}
use Rattle.dm_event.specs.Txns.{same_txn}
use Rattle.dm_event.specs.Vectors.{sites_to, same_numbers}
use Rattle.dm_event.specs.declared.limits.TheConstants.{MAX_OPS}
use Rattle.dm_event.specs.declared.step.Cause.{Cause}
use Rattle.dm_event.specs.declared.step.Cause.TheVariants as cause
use Rattle.dm_event.specs.declared.step.Op.{Op}
use Rattle.dm_event.specs.declared.step.Op.TheVariants.{Read, Write, Add}
use Rattle.dm_event.specs.declared.step.Pair.{Pair}
use Rattle.dm_event.specs.declared.step.Step.{Step}
use Rattle.dm_event.specs.declared.step.Step.TheVariants.{Begin, Commit, End, Fail}
use Rattle.dm_event.specs.declared.step.TxnId.{TxnId}
use Rattle.dm_event.specs.declared.why.Why.TheVariants as why
use Rattle.dm_model.proofs.ClausesHold.{first_none, holds_none}
use Rattle.dm_model.proofs.Judged.{judged, shape_of}
use Rattle.dm_model.proofs.LegalSteps.{in_range}
use Rattle.dm_model.proofs.ListFacts.{find_none, each_range, found_holds}
use Rattle.dm_model.proofs.RunningIsLast.{seated, one_seat}
use Rattle.dm_model.proofs.SameValues.{txn_same, pairs_decide}
use Rattle.dm_model.specs.Allowed.{Allowed, clauses}
use Rattle.dm_model.specs.Attempts.{routed}
use Rattle.dm_model.specs.Bodies.{Ran, put, after_op, run_from, read_value, body, ran_at, has_writes}
use Rattle.dm_model.specs.Clauses.{at_site}
use Rattle.dm_model.specs.Legal.{LegalPast}
use Rattle.dm_model.specs.Progress.{entry_count}
use Rattle.dm_model.specs.Runs.{runs, run_site, begin_vector, began_at}
use Rattle.dm_model.specs.Shape.{is_op, are_ops, are_pairs, is_txn, is_vector, is_ascending, is_shaped, is_cause, is_cause_at}
use Rattle.dm_model.specs.Tests.{same_pairs}
use Rattle.dm_model.specs.Values.{value}
use Rattle.dm_next.specs.Running.{Runs, entry_of_run}
use Rattle.dm_steps.proofs.Legality.{long_begin}

-- a step that has its shape and of which each clause holds
pub may_come : (layout : Layout) (past : List Step) (s : Step) → is_shaped layout s ≡ true → Each (λ c. c ≡ None) (clauses layout past s)
    → Allowed layout past s
may_come layout past s shape each = judged layout past s s refl shape ∙ first_none (clauses layout past s) each

-- ---- where an attempt runs

pub find_only : (p : ℕ → Bool) (count i : ℕ) → 1 ≤ i → i ≤ count → p i ≡ true → ((j : ℕ) → p j ≡ true → j ≡ i) → find p (sites_to count) ≡ Some i
find_only p count i one top h f = by (find p (sites_to count)) refl
  where
    by : (o : Option ℕ) → find p (sites_to count) ≡ o → o ≡ Some i
    by None e = absurd (false≢true (sym (each_range (λ j. p j ≡ false) 1 count (find_none p (sites_to count) e) i one (omega (arith, top))) ∙ h))
    by (Some x) e = ap (λ (y : ℕ). Some y) (f x (found_holds p (sites_to count) x e))

pub run_site_is : (layout : Layout) (past : List Step) (site : ℕ) (txn : TxnId) → LegalPast layout past → is_site layout site ≡ true → runs site txn past ≡ true
    → run_site layout past txn ≡ Some site
run_site_is layout past i t l s r =
    let range = in_range layout i s in
    find_only (λ k. runs k t past) layout.sites i range.one range.top r
    (λ j q. (one_seat past j i t t (seated layout past l j t q) (seated layout past l i t r) refl).site)

-- who has begun is in range
pub begun_txn : (layout : Layout) (past : List Step) (txn : TxnId) (begin : List ℕ) → LegalPast layout past → begin_vector txn past ≡ Some begin
    → is_txn layout txn ≡ true
begun_txn layout [] t b l e = absurd (cc (e))
begun_txn layout (Begin site txn begin ∷ past) t b l e = by (same_txn t txn) refl e (λ f. begun_txn layout past t b l.0 f)
  where
    by : (s : Bool) → same_txn t txn ≡ s → option_or (cond s (Some begin) None) (begin_vector t past) ≡ Some b → (begin_vector t past ≡ Some b
        → is_txn layout t ≡ true)
        → is_txn layout t ≡ true
    by true q f rest =
        subst (λ (v : TxnId). is_txn layout v ≡ true) (sym (txn_same t txn q))
        (and_parts (is_txn layout txn) _ (and_parts (is_site layout site) _ (shape_of layout past (Begin site txn begin) l.1)).1).0
    by false q f rest = rest f
begun_txn layout (other ∷ past) t b l e = begun_txn layout past t b l.0 e

-- ---- what a body reads and writes is in range

pub all_end : {X : Type 0} (p : X → Bool) (xs : List X) (x : X) → list_all p xs ≡ true → p x ≡ true → list_all p (xs ++ x ∷ []) ≡ true
all_end p [] x h q = and_from (p x) true q refl
all_end p (y ∷ ys) x h q = (let a = and_parts (p y) (list_all p ys) h in and_from (p y) _ a.0 (all_end p ys x a.1 q))

put_keys : (layout : Layout) (ps : List Pair) (key : ℕ) (value : ℤ) → are_pairs layout ps ≡ true → is_key layout key ≡ true
    → are_pairs layout (put ps key value) ≡ true
put_keys layout [] key value h k = and_from (is_key layout key) true k refl
put_keys layout (p ∷ ps) key value h k = by (nat_lt p.key key) (p.key == key) (put_keys layout ps key value a.1 k)
  where
    a : (is_key layout p.key ≡ true) × (are_pairs layout ps ≡ true)
    a = and_parts (is_key layout p.key) (are_pairs layout ps) h

    by : (x y : Bool) → are_pairs layout (put ps key value) ≡ true
        → are_pairs layout (cond x (p ∷ put ps key value)
        (cond y (record { key = key; value = value } ∷ ps) (record { key = key; value = value } ∷ (p ∷ ps)))) ≡ true
    by true y r = and_from (is_key layout p.key) _ a.0 r
    by false true r = and_from (is_key layout key) _ k a.1
    by false false r = and_from (is_key layout key) _ k h

pub record Keyed (layout : Layout) (ran : Ran) : Type 0 where
  pub reads : are_pairs layout ran.reads ≡ true
  pub writes : are_pairs layout ran.writes ≡ true

after_keys : (layout : Layout) (f : ℕ → ℤ) (ran : Ran) (op : Op) → is_op layout op ≡ true → Keyed layout ran → Keyed layout (after_op f ran op)
after_keys layout f ran (Read key) h k = record {
  reads = all_end (λ p. is_key layout p.key) ran.reads (record { key = key; value = read_value f ran key }) k.reads h;
  writes = k.writes;
}
after_keys layout f ran (Write key value) h k = record { reads = k.reads; writes = put_keys layout ran.writes key value k.writes h }
after_keys layout f ran (Add key by) h k = record { reads = k.reads; writes = put_keys layout ran.writes key _ k.writes h }

run_keys : (layout : Layout) (f : ℕ → ℤ) (ran : Ran) (ops : List Op) → list_all (is_op layout) ops ≡ true → Keyed layout ran → Keyed layout (run_from f ran ops)
run_keys layout f ran [] h k = k
run_keys layout f ran (op ∷ ops) h k =
    let a = and_parts (is_op layout op) (list_all (is_op layout) ops) h in
    run_keys layout f (after_op f ran op) ops a.1 (after_keys layout f ran op a.0 k)

pub body_keys : (layout : Layout) (f : ℕ → ℤ) (ops : List Op) → list_all (is_op layout) ops ≡ true → Keyed layout (body ops f)
body_keys layout f ops h = run_keys layout f (record { reads = []; writes = [] }) ops h (record { reads = refl; writes = refl })

-- ---- equal values pass

pub numbers_own : (u : List ℕ) → same_numbers u u ≡ true
numbers_own u = (bytes_decides u u).1 refl

pub pairs_own : (xs : List Pair) → same_pairs xs xs ≡ true
pairs_own xs = (pairs_decide xs xs).1 refl

pub at_this : (site : ℕ) (due : Option ℕ) → due ≡ Some site → at_site due site ≡ None
at_this i o e = ap (λ (x : Option ℕ). at_site x i) e ∙ holds_none (i == i) (why.WrongSite i) (eq-eqb i i refl)

some_there : {X : Type 0} (o : Option X) (x : X) → o ≡ Some x → is_some o ≡ true
some_there o x e = ap (λ (y : Option _). is_some y) e

-- ---- a Commit, an End and a Fail of a running attempt

module _ (layout : Layout) (past : List Step) (l : LegalPast layout past) (site : ℕ) (txn : TxnId) (begin : List ℕ) (done : Progress)
    (r : Runs layout past site txn begin done) where
  at : run_site layout past txn ≡ Some site
  at = run_site_is layout past site txn l r.there r.running

  fits : is_txn layout txn ≡ true
  fits = begun_txn layout past txn begin l r.began.begun

  long : is_vector layout begin ≡ true
  long = eq-eqb (length begin) layout.sites (long_begin layout (same_txn txn) past l begin r.began.begun)

  began_here : began_at txn past ≡ begin
  began_here = ap (λ (o : Option (List ℕ)). unwrap_or o []) r.began.begun

  its_ops : are_ops layout done.ops ≡ true
  its_ops = and_from _ _ (le-leb (length done.ops) MAX_OPS r.began.few) r.began.in_range

  keyed : Keyed layout done.ran
  keyed = subst (λ (x : Ran). Keyed layout x) (sym r.began.ran) (body_keys layout (λ key. value layout past key begin) done.ops r.began.in_range)

  rises : is_ascending (map (λ (p : Pair). p.key) done.ran.writes) ≡ true
  rises = subst (λ (x : Ran). is_ascending (map (λ (p : Pair). p.key) x.writes) ≡ true) (sym r.began.ran)
      (rises_ascend (body done.ops (λ key. value layout past key begin)).writes 0 (body_rises done.ops (λ key. value layout past key begin)))

  same_reads : same_pairs done.ran.reads (ran_at layout past begin done.ops).reads ≡ true
  same_reads = subst (λ (x : Ran). same_pairs done.ran.reads x.reads ≡ true) r.began.ran (pairs_own done.ran.reads)

  same_writes : same_pairs done.ran.writes (ran_at layout past begin done.ops).writes ≡ true
  same_writes = subst (λ (x : Ran). same_pairs done.ran.writes x.writes ≡ true) r.began.ran (pairs_own done.ran.writes)

  pub may_commit : has_writes done.ops ≡ true → Allowed layout past (Commit (entry_of_run site (entry_count site past + 1) txn begin done))
  may_commit w =
      may_come layout past (Commit (entry_of_run site (entry_count site past + 1) txn begin done))
      (and_from _ _ fits (and_from _ _ r.there (and_from _ _ long (and_from _ _ its_ops (and_from _ _ keyed.reads (and_from _ _ keyed.writes rises)))))) (
        holds_none _ _ (some_there (run_site layout past txn) site at),
        (
          at_this site (run_site layout past txn) at,
          (
            holds_none _ _ (eq-eqb (entry_count site past + 1) (entry_count site past + 1) refl),
            (
              holds_none _ _ (subst (λ (v : List ℕ). same_numbers begin v ≡ true) (sym began_here) (numbers_own begin)),
              (
                ap (λ (o : Option ℕ). option_map why.Undeclared o) r.began.declares,
                (
                  holds_none _ _ (and_from _ _ same_reads same_writes),
                  (
                    holds_none _ _ w,
                    tt,
                  ),
                ),
              ),
            ),
          ),
        ),
      )

  pub may_end : has_writes done.ops ≡ false → Allowed layout past (End site txn done.ops done.ran.reads)
  may_end w =
      may_come layout past (End site txn done.ops done.ran.reads) (and_from _ _ r.there (and_from _ _ fits (and_from _ _ its_ops keyed.reads))) (
        holds_none _ _ (some_there (run_site layout past txn) site at),
        (
          at_this site (run_site layout past txn) at,
          (
            holds_none _ _ (ap (λ (b : Bool). not b) w),
            (
              holds_none _ _ (subst (λ (v : List ℕ). same_pairs done.ran.reads (ran_at layout past v done.ops).reads ≡ true) (sym began_here) same_reads),
              tt,
            ),
          ),
        ),
      )

  pub may_fail_for : (cause : Cause) → is_cause layout cause ≡ true → is_cause_at layout site cause ≡ true → Allowed layout past (Fail site txn cause)
  may_fail_for cause a b =
      may_come layout past (Fail site txn cause) (and_from _ _ r.there (and_from _ _ fits (and_from _ _ a b))) (
        holds_none _ _ (or_right (is_some (routed txn past)) _ (some_there (run_site layout past txn) site at)),
        (at_this site (run_site layout past txn) at, tt),
      )

  pub may_log : Allowed layout past (Fail site txn (cause.Log site))
  may_log = may_fail_for (cause.Log site) r.there (eq-eqb site site refl)

  pub may_forget : Allowed layout past (Fail site txn cause.Memory)
  may_forget = may_fail_for cause.Memory refl refl
