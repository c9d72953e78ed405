-- A run between its Begin and its end.
use Rattle.std.proofs.Common.{◌⊎◌, ⊎_elim, ◌≡◌, ℕ, zero, suc, ◌+◌, ◌<◌, Bool, true, false, List, [], ◌∷◌, ◌++◌, length, take, Option, Some, None, refl, sym, ap, ◌∙◌, subst, arith}
use lib.Seq.{take-suc}
use Rattle.std.specs.List.{cons_option}
use Rattle.std.specs.Prelude.{find, filter_map, not, slice_index_or, cond, ℤ, IfSome, IsTrue}
use Rattle.dm_chronicle.proofs.Lists.{prefix_trans, prefix_refl}
use Rattle.dm_desk.specs.declared.answers.OpAnswer.{OpAnswer}
use Rattle.dm_desk.specs.declared.answers.OpAnswer.TheVariants as ops
use Rattle.dm_event.specs.declared.actor.Actor.TheVariants.{Session}
use Rattle.dm_event.specs.declared.step.Op.{Op}
use Rattle.dm_event.specs.declared.step.Step.{Step}
use Rattle.dm_event.specs.declared.step.Step.TheVariants.{Begin}
use Rattle.dm_event.specs.declared.step.TxnId.{TxnId}
use Rattle.dm_invariant.proofs.Passing.{went_twice}
use Rattle.dm_invariant.specs.Running.{Going, IsHere}
use Rattle.dm_invariant.specs.Stations.{Rested, View, Went, own}
use Rattle.dm_model.specs.Bodies.{first_undeclared, written_key}
use Rattle.dm_model.specs.Tests.{is_among}
use Rattle.dm_site.specs.Answers.{BeganAs, OpDone}
use Rattle.dm_site.specs.declared.answers.BeginAnswer.{BeginAnswer}
use Rattle.dm_site.specs.declared.answers.BeginAnswer.TheVariants as begins
use Rattle.dm_sites.specs.Stages.{StartedAs}
use Rattle.dm_sites.specs.declared.running.Started.TheVariants as started

pub went_self : (a : View) → Went a a
went_self a = record { table = refl; fixed = refl; actors = refl; begins = prefix_refl a.seen }

-- an attempt that began after it waited
pub began_started : (i to : ℕ) (was : View) (txn : TxnId) (keys' keys min : List ℕ) (old mid new : View) (run : Going) (answer : BeginAnswer) → i ≡ to
    → keys' ≡ keys → Rested (Session txn.session) old mid → answer ≡ begins.Begun run → BeganAs i was txn keys' min mid new answer
    → StartedAs to txn keys min old new (started.Begun run)
began_started i to was txn keys' keys min old mid new run answer at same kept is h' =
    let h = subst (λ (a : BeginAnswer). BeganAs i was txn keys' min mid new a) is h' in
    let b = subst (λ (k : ℕ). BeganAs k was txn keys' min mid new (begins.Begun run)) at h in
    let b' = subst (λ (k : List ℕ). BeganAs to was txn k min mid new (begins.Begun run)) same b in
    (b'.0 ∙ ap (λ (l : List Step). l ++ Begin to txn run.begin ∷ []) kept, b'.1, b'.2)

-- the run has just begun in what the pass has seen
pub begun_here : (to : ℕ) (txn : TxnId) (keys min : List ℕ) (old new : View) (run : Going) → StartedAs to txn keys min old new (started.Begun run)
    → IsHere to new run
begun_here to txn keys min old new run h =
    let here : IsHere to new (record { txn = txn; site = to; begin = run.begin; declared = keys; ops = []; was = new }) =
    record { site_is = refl; fixed = refl; begins = prefix_refl new.seen; last = (own (Session txn.session) old.seen, h.0) } in
    subst (λ (x : Going). IsHere to new x) (sym h.1) here

-- the run goes on
pub here_on : (to : ℕ) (run now : Going) (old new : View) (ops : List Op) → now ≡ record run { ops = ops } → IsHere to old run → Went old new
    → Rested (Session run.txn.session) old new → IsHere to new now
here_on to run now old new ops e h w k =
    let here : IsHere to new (record run { ops = ops }) = record {
      site_is = h.site_is;
      fixed = h.fixed ∙ sym w.fixed;
      begins = prefix_trans run.was.seen old.seen new.seen h.begins w.begins;
      last = (h.last.0, k ∙ h.last.1);
    } in
    subst (λ (x : Going). IsHere to new x) (sym e) here

abbrev pub WritesDeclared : List ℕ → Op → Type 0
WritesDeclared keys op = IfSome (written_key op) (λ key. IsTrue (is_among keys key))

-- each of the writes is declared
pub declared_at : (keys : List ℕ) (ops : List Op) (i : ℕ) (d : Op) → first_undeclared keys ops ≡ None → i < length ops
    → WritesDeclared keys (slice_index_or ops i d)
declared_at keys [] i d h l = absurd (omega arith)
declared_at keys (op ∷ ops) i d h l = by i l (split (written_key op) h) (declared_at keys ops)
  where
    p : ℕ → Bool
    p key = not (is_among keys key)

    found : (key : ℕ) (b : Bool) (o : Option ℕ) → is_among keys key ≡ b → cond (not b) (Some key) o ≡ None → (b ≡ true) × (o ≡ None)
    found key true o e g = (refl, g)
    found key false o e g = absurd (cc (g))

    split : (w : Option ℕ) → find p (cons_option w (filter_map written_key ops)) ≡ None
        → IfSome w (λ key. is_among keys key ≡ true) × (first_undeclared keys ops ≡ None)
    split None g = (tt, g)
    split (Some k) g = found k (is_among keys k) (first_undeclared keys ops) refl g

    by : (i : ℕ) → i < length (op ∷ ops) → IfSome (written_key op) (λ key. is_among keys key ≡ true) × (first_undeclared keys ops ≡ None)
        → ((j : ℕ) (e : Op) → first_undeclared keys ops ≡ None → j < length ops → WritesDeclared keys (slice_index_or ops j e))
        → WritesDeclared keys (slice_index_or (op ∷ ops) i d)
    by zero m s rest = s.0
    by (suc j) m s rest = rest j d s.1 (omega (arith, m))

-- one op more is done
pub op_done : (run l after : Going) (ops : List Op) (i : ℕ) (d : Op) → i < length ops → l ≡ record run { ops = take i ops }
    → after ≡ record l { ops = l.ops ++ slice_index_or ops i d ∷ [] } → after ≡ record run { ops = take (i + 1) ops }
op_done run l after ops i d m e f =
    let n : i + 1 ≡ suc i = omega arith in
    let t : take i ops ++ slice_index_or ops i d ∷ [] ≡ take (i + 1) ops = sym (ap (λ (k : ℕ). take k ops) n ∙ take-suc ops i d m) in
    f ∙ ((λ j. record (e j) { ops = (e j).ops ++ slice_index_or ops i d ∷ [] }) ∙ (λ j. record run { ops = t j }))

abbrev More : Op → Going → Going → View → View → Type 0
More op run after old new = Rested (Session run.txn.session) old new × (after ≡ record run { ops = run.ops ++ op ∷ [] })

pub did_some : (op : Op) (run after : Going) (old new : View) (answer : OpAnswer) → (((v : ℤ) × (answer ≡ ops.Value v)) ⊎ (answer ≡ ops.Done))
    → OpDone run after op old new answer → More op run after old new
did_some op run after old new answer is h = ⊎_elim (λ v. value v.0 v.1) done is
  where
    value : (v : ℤ) → answer ≡ ops.Value v → More op run after old new
    value v e = (let d = subst (λ (a : OpAnswer). OpDone run after op old new a) e h in (d.0, d.1))

    done : answer ≡ ops.Done → More op run after old new
    done e = (let d = subst (λ (a : OpAnswer). OpDone run after op old new a) e h in (d.0, d.1))

-- the loop goes on
pub goes_on : (run l after : Going) (ops : List Op) (i : ℕ) (d : Op) (first old new : View) → i < length ops → l ≡ record run { ops = take i ops }
    → Went first old → Rested (Session run.txn.session) first old → Went old new → More (slice_index_or ops i d) l after old new
    → Went first new × Rested (Session run.txn.session) first new × (after ≡ record run { ops = take (i + 1) ops })
goes_on run l after ops i d first old new m e w k w' h =
    let c : l.txn.session ≡ run.txn.session = ap (λ (r : Going). r.txn.session) e in
    (went_twice first old new w w', subst (λ (n : ℕ). Rested (Session n) old new) c h.0 ∙ k, op_done run l after ops i d m e h.1)

pub rested_twice : (c : ℕ) (a b d : View) → Rested (Session c) a b → Rested (Session c) b d → Rested (Session c) a d
rested_twice c a b d p q = q ∙ p
