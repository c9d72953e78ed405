-- What is so of a run stays so as the history grows, and as it does one op more.
use Rattle.std.proofs.Common.{ℕ, ℤ, zero, suc, ◌<◌, ◌≤◌, ◌≡◌, ◌==◌, Bool, true, false, not, cond, List, [], ◌∷◌, ◌++◌, Option, Some, None, length, refl}
use Rattle.std.proofs.Common.{sym, ap, ◌∙◌, subst, arith, inl, inr}
use Rattle.std.proofs.Common.{find, unwrap_or}
use Rattle.std.proofs.lemmas.Bool.{cases_lt, eq-eqb, and_parts, false≢true}
use Rattle.std.proofs.lemmas.List.{length-append}
use Rattle.std.specs.List.{cons_option}
use Rattle.std.specs.Prelude.{IfSome, reverse, is_some, option_map, filter_map}
use mathlib.Core.List.{IsPrefix}
use Rattle.dm_body.proofs.Folds.{body_push}
use Rattle.dm_body.specs.Progress.{Progress, nothing_done, turn}
use Rattle.dm_event.specs.Layout.{Layout, is_site}
use Rattle.dm_event.specs.Vectors.{at, vector_by, AtMost}
use Rattle.dm_event.specs.declared.limits.TheConstants.{MAX_OPS}
use Rattle.dm_event.specs.declared.step.Op.{Op}
use Rattle.dm_event.specs.declared.step.Step.{Step}
use Rattle.dm_event.specs.declared.step.Step.TheVariants.{Begin}
use Rattle.dm_event.specs.declared.step.TxnId.{TxnId}
use Rattle.dm_event.specs.Txns.{same_txn}
use Rattle.dm_model.proofs.Histories.{legal_prefix}
use Rattle.dm_model.proofs.Judged.{shape_of}
use Rattle.dm_model.proofs.NumbersSound.{sound_past}
use Rattle.dm_model.proofs.SameValues.{txn_own}
use Rattle.dm_model.proofs.StepTests.{taken}
use Rattle.dm_model.proofs.VectorFacts.{at_by, at_past}
use Rattle.dm_model.specs.Allowed.{Allowed}
use Rattle.dm_model.specs.Attempts.{Routing, routing, declared, wanted_keys}
use Rattle.dm_model.specs.Bodies.{body, after_op, first_undeclared, written_key}
use Rattle.dm_model.specs.Legal.{Legal, LegalPast}
use Rattle.dm_model.specs.Progress.{reached, site_vector}
use Rattle.dm_model.specs.Runs.{runs, begin_vector}
use Rattle.dm_model.specs.Shape.{is_op}
use Rattle.dm_model.specs.Tests.{is_among}
use Rattle.dm_model.specs.Values.{value}
use Rattle.dm_next.proofs.Growing.{values_stay}
use Rattle.dm_next.proofs.Running.{all_end}
use Rattle.dm_others.proofs.Growing.{longer}
use Rattle.dm_others.proofs.Once.{began_past, begin_stays, route_stays}
use Rattle.dm_next.specs.Running.{Began, Runs}

-- ---- a run of an older list

pub within_vector : (count : ℕ) (f : ℕ → ℕ) (v : List ℕ) → length v ≡ count → ((j : ℕ) → at v j ≤ f j) → AtMost v (vector_by count f)
within_vector count f v l h zero = omega arith
within_vector count f v l h (suc k) = elim (cases_lt k count) [
  | inl m ↦ (let a = at_by count f (suc k) (omega arith) (omega arith) in let c = h (suc k) in omega (arith, a, c))
  | inr m ↦ (let a = at_past v (suc k) (omega (arith, l)) in omega (arith, a))
]

some_is : (u v : List ℕ) → Some u ≡ Some v → u ≡ v
some_is u v e = cc (e)

-- a site has all that an attempt which runs there began with
pub begin_within : (layout : Layout) (past : List Step) (site : ℕ) (txn : TxnId) (begin : List ℕ) → LegalPast layout past → runs site txn past ≡ true
    → begin_vector txn past ≡ Some begin → AtMost begin (site_vector layout.sites past site)
begin_within layout past site txn begin l run b =
    let here = (sound_past layout past l).running site txn run in
    subst (λ (v : List ℕ). AtMost v (site_vector layout.sites past site)) (some_is here.begin begin (sym here.is ∙ b))
    (within_vector layout.sites (λ j. reached site j past) here.begin here.within.long here.within.below)

pub begun_on : (layout : Layout) (old new : List Step) (txn : TxnId) (begin : List ℕ) → IsPrefix old new → Legal layout new
    → begin_vector txn (reverse old) ≡ Some begin → begin_vector txn (reverse new) ≡ Some begin
begun_on layout old new txn begin p l b =
    longer layout (λ past. begin_vector txn past ≡ Some begin) (λ past s m q. begin_stays layout past s txn begin m q) old new p l b

pub legal_old : (layout : Layout) (old new : List Step) → IsPrefix old new → Legal layout new → Legal layout old
legal_old layout old new p l = legal_prefix layout old p.0 (subst (λ (h : List Step). Legal layout h) (sym p.1) l)

pub routing_on : (layout : Layout) (old new : List Step) (txn : TxnId) (r : Routing) → IsPrefix old new → Legal layout new
    → routing txn (reverse old) ≡ Some r → routing txn (reverse new) ≡ Some r
routing_on layout old new txn r p l h =
    longer layout (λ past. routing txn past ≡ Some r) (λ past s m e. route_stays layout past s txn r m e) old new p l h

-- the keys of an attempt that has begun
pub declared_on : (layout : Layout) (old new : List Step) (txn : TxnId) (begin : List ℕ) → IsPrefix old new → Legal layout new
    → begin_vector txn (reverse old) ≡ Some begin → declared txn (reverse new) ≡ declared txn (reverse old)
declared_on layout old new txn begin p l b =
    by (routing txn (reverse old)) refl
    (began_past layout (reverse old) (legal_old layout old new p l) txn (ap (λ (o : Option (List ℕ)). is_some o) b)).0
  where
    by : (o : Option Routing) → routing txn (reverse old) ≡ o → is_some o ≡ true → declared txn (reverse new) ≡ declared txn (reverse old)
    by None e h = absurd (false≢true h)
    by (Some r) e h =
        ap (λ (o : Option Routing). unwrap_or (option_map (λ (x : Routing). wanted_keys x.want) o) []) (routing_on layout old new txn r p l e ∙ sym e)

-- the values where it began
pub begin_values_on : (layout : Layout) (old new : List Step) (txn : TxnId) (begin : List ℕ) → IsPrefix old new → Legal layout new
    → begin_vector txn (reverse old) ≡ Some begin → (key : ℕ) → value layout (reverse new) key begin ≡ value layout (reverse old) key begin
begin_values_on layout old new txn begin p l b =
    values_stay layout old new begin p l ((sound_past layout (reverse old) (legal_old layout old new p l)).begins txn begin b).within

pub began_on : (layout : Layout) (old new : List Step) (txn : TxnId) (begin : List ℕ) (done : Progress) → IsPrefix old new → Legal layout new
    → Began layout (reverse old) txn begin done → Began layout (reverse new) txn begin done
began_on layout old new txn begin done p l b = record {
  begun = begun_on layout old new txn begin p l b.begun;
  few = b.few;
  in_range = b.in_range;
  declares = ap (λ (keys : List ℕ). first_undeclared keys done.ops) (declared_on layout old new txn begin p l b.begun) ∙ b.declares;
  ran = b.ran ∙ (λ j. body done.ops (λ key. sym (begin_values_on layout old new txn begin p l b.begun key) j));
}

pub runs_on : (layout : Layout) (old new : List Step) (site : ℕ) (txn : TxnId) (begin : List ℕ) (done : Progress) → IsPrefix old new → Legal layout new
    → is_site layout site ≡ true → runs site txn (reverse new) ≡ true → Began layout (reverse old) txn begin done
    → Runs layout (reverse new) site txn begin done
runs_on layout old new site txn begin done p l there run b = record { there = there; running = run; began = began_on layout old new txn begin done p l b }

-- what a site reads for an attempt that runs there is what the attempt's own, older list gives, at a vector that the site has
pub record ReadsAs (layout : Layout) (old new : List Step) (site : ℕ) (begin : List ℕ) : Type 0 where
  pub within : AtMost begin (site_vector layout.sites (reverse new) site)
  pub values : (key : ℕ) → value layout (reverse new) key begin ≡ value layout (reverse old) key begin

pub reads_stay : (layout : Layout) (old new : List Step) (site : ℕ) (txn : TxnId) (begin : List ℕ) → IsPrefix old new → Legal layout new
    → runs site txn (reverse new) ≡ true → begin_vector txn (reverse old) ≡ Some begin → ReadsAs layout old new site begin
reads_stay layout old new site txn begin p l run b = record {
  within = begin_within layout (reverse new) site txn begin l run (begun_on layout old new txn begin p l b);
  values = begin_values_on layout old new txn begin p l b;
}

-- ---- the first op and one more

-- who begins runs, and has done nothing
pub run_begins : (layout : Layout) (past : List Step) (site : ℕ) (txn : TxnId) (begin : List ℕ) → Allowed layout past (Begin site txn begin)
    → Runs layout (Begin site txn begin ∷ past) site txn begin nothing_done
run_begins layout past site txn begin h = record {
  there = (and_parts (is_site layout site) _ (shape_of layout past (Begin site txn begin) h)).0;
  running = ap (λ (o : Option Bool). unwrap_or o false) (taken (same_txn txn txn) (site == site) _ (txn_own txn)) ∙ eq-eqb site site refl;
  began = record { begun = taken (same_txn txn txn) begin _ (txn_own txn); few = omega arith; in_range = refl; declares = refl; ran = refl };
}

one_key : (keys : List ℕ) (o : Option ℕ) → IfSome o (λ key. is_among keys key ≡ true) → find (λ key. not (is_among keys key)) (cons_option o []) ≡ None
one_key keys None d = refl
one_key keys (Some key) d = ap (λ (b : Bool). cond (not b) (Some key) None) d

pub undeclared_end : (keys : List ℕ) (ops : List Op) (op : Op) → first_undeclared keys ops ≡ None → IfSome (written_key op) (λ key. is_among keys key ≡ true)
    → first_undeclared keys (ops ++ op ∷ []) ≡ None
undeclared_end keys [] op h d = one_key keys (written_key op) d
undeclared_end keys (o ∷ ops) op h d = by (written_key o) h (λ g. undeclared_end keys ops op g d)
  where
    by : (w : Option ℕ) → find (λ key. not (is_among keys key)) (cons_option w (filter_map written_key ops)) ≡ None
        → (first_undeclared keys ops ≡ None → first_undeclared keys (ops ++ op ∷ []) ≡ None)
        → find (λ key. not (is_among keys key)) (cons_option w (filter_map written_key (ops ++ op ∷ []))) ≡ None
    by None g rest = rest g
    by (Some key) g rest = by_key (is_among keys key) g
      where
        by_key : (b : Bool) → cond (not b) (Some key) (first_undeclared keys ops) ≡ None
            → cond (not b) (Some key) (first_undeclared keys (ops ++ op ∷ [])) ≡ None
        by_key true f = rest f
        by_key false f = absurd (cc (f))

-- an op in range that writes no undeclared key, where its values are those at the begin vector
pub op_more : (layout : Layout) (past : List Step) (txn : TxnId) (begin : List ℕ) (done : Progress) (op : Op) (f : ℕ → ℤ) → Began layout past txn begin done
    → length done.ops < MAX_OPS → is_op layout op ≡ true → IfSome (written_key op) (λ key. is_among (declared txn past) key ≡ true)
    → ((key : ℕ) → f key ≡ value layout past key begin)
    → Began layout past txn begin (turn f done op)
op_more layout past txn begin done op f b less fits keys same = record {
  begun = b.begun;
  few = omega (arith, length-append done.ops (op ∷ []), less);
  in_range = all_end (is_op layout) done.ops op b.in_range fits;
  declares = undeclared_end (declared txn past) done.ops op b.declares keys;
  ran = (λ j. after_op (λ key. same key j) (b.ran j) op) ∙ sym (body_push (λ key. value layout past key begin) done.ops op);
}
