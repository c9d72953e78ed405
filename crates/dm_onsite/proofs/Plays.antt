-- What the acts of a session leave of it.
use Rattle.std.proofs.Common.{ℕ, ◌≡◌, Bool, true, false, List, [], ◌∷◌, ◌++◌, Option, Some, None, Result, Ok, Err, refl, sym, ap, ◌∙◌, subst, IsTrue}
use Rattle.std.proofs.lemmas.Bool.{eq-eqb}
use Rattle.std.specs.Prelude.{◌||◌, is_ok, IfSome, OnOk, option_map}
use Rattle.atomic_table.specs.Seated.{TableId}
use Rattle.dm_chronicle.proofs.Lists.{prefix_refl}
use Rattle.dm_chronicle.specs.Belongs.{belongs}
use Rattle.dm_event.specs.Actors.{actors}
use Rattle.dm_event.specs.declared.actor.Actor.{Actor}
use Rattle.dm_event.specs.declared.actor.Actor.TheVariants.{Session}
use Rattle.dm_event.specs.declared.step.Choice.{Choice}
use Rattle.dm_event.specs.declared.step.Choice.TheVariants.{Hand}
use Rattle.dm_event.specs.declared.step.Op.{Op}
use Rattle.dm_event.specs.declared.step.Step.{Step}
use Rattle.dm_event.specs.declared.step.Step.TheVariants.{Begin, Route}
use Rattle.dm_event.specs.declared.step.TxnId.{TxnId}
use Rattle.dm_event.specs.declared.step.Want.{Want}
use Rattle.dm_invariant.proofs.Passing.{adds_one, did, given_back, went_layout, went_on}
use Rattle.dm_invariant.specs.Running.{Going, IsHere, RoutedFor}
use Rattle.dm_invariant.specs.Stations.{Did, IsPassOf, Rested, View, Went, layout_of, own}
use Rattle.dm_invariant.specs.Turning.{Turned}
use Rattle.dm_onsite.specs.Seats.{IsSeated, Seat}
use Rattle.dm_site.proofs.Outcomes.{here_on}
use Rattle.dm_site.specs.Answers.{BeganAs, IsRoutedIn, OpDone}
use Rattle.dm_site.specs.declared.answers.BeginAnswer.{BeginAnswer}
use Rattle.dm_site.specs.declared.answers.BeginAnswer.TheVariants.{Begun}
use Rattle.dm_desk.specs.declared.answers.OpAnswer.{OpAnswer}
use Rattle.dm_desk.specs.declared.answers.OpAnswer.TheVariants as op_answer

-- ---- a turn of one pass

pub on_ok : {A E : Type 0} (P : Type 0) (r : Result A E) → OnOk r P → IsTrue (is_ok r) → P
on_ok P (Ok a) p t = p
on_ok P (Err e) p t = absurd (cc (t))

-- the pass enters, and pushes a step where there is room
module _ (old lent new : View) (entered turn : View) (step : Step) (l : lent ≡ record old { actors = [] }) (held : entered.actors ≡ old.actors)
    (t : Turned old entered.seen entered.fixed) (same : turn ≡ entered)
    (e : new ≡ record lent { actors = turn.actors; seen = turn.seen ++ step ∷ [] }) where
  back : new ≡ record old { seen = turn.seen ++ step ∷ [] }
  back = given_back old lent new turn.actors (turn.seen ++ step ∷ []) l (ap (λ (v : View). v.actors) same ∙ held) e

  turned : Turned old turn.seen turn.fixed
  turned = subst (λ (v : View). Turned old v.seen v.fixed) (sym same) t

  pub alone_went : Went old new
  alone_went = went_on old new turn.seen step turned.begins back

  pub alone_did : (actor : Actor) → old.actors ≡ actor ∷ [] → belongs actors step actor ≡ true → Did actor old new step
  alone_did actor a b = did actor old new turn.seen step (adds_one actor old turn.seen turn.fixed a turned) back b

-- a Route is its session's
route_belongs : (txn : TxnId) (wanted : Want) (min : List ℕ) (site : ℕ) (by : Choice)
    → belongs actors (Route txn wanted min site by) (Session txn.session) ≡ true
route_belongs txn wanted min site by = ap (λ (b : Bool). b || false) (eq-eqb txn.session txn.session refl)

pub routed_by : (txn : TxnId) (wanted : Want) (min : List ℕ) (site : ℕ) (old new : View)
    → (belongs actors (Route txn wanted min site Hand) (Session txn.session) ≡ true → Did (Session txn.session) old new (Route txn wanted min site Hand))
    → RoutedFor txn wanted min site new
routed_by txn wanted min site old new d = (own (Session txn.session) old.seen, Hand, d (route_belongs txn wanted min site Hand))

-- ---- an attempt that begins

-- its Begin is the last step of its session
pub begun_here : (site : ℕ) (txn : TxnId) (keys : List ℕ) (old new : View) (run : Going) → Did (Session txn.session) old new (Begin site txn run.begin)
    → run ≡ record { txn = txn; site = site; begin = run.begin; declared = keys; ops = []; was = new } → IsHere site new run
begun_here site txn keys old new run d e = subst (λ (r : Going). IsHere site new r) (sym e) here
  where
    here : IsHere site new (record { txn = txn; site = site; begin = run.begin; declared = keys; ops = []; was = new })
    here = record { site_is = refl; fixed = refl; begins = prefix_refl new.seen; last = (own (Session txn.session) old.seen, d) }

pub began_here : (site : ℕ) (was : View) (txn : TxnId) (keys min : List ℕ) (old new : View) (answer : BeginAnswer) (run : Going) → answer ≡ Begun run
    → BeganAs site was txn keys min old new answer → site ≡ 1 → (run.txn.session ≡ txn.session) × IsHere 1 new run
began_here site was txn keys min old new answer run a b s =
    let d : BeganAs site was txn keys min old new (Begun run) = subst (λ (answer : BeginAnswer). BeganAs site was txn keys min old new answer) a b in
    (ap (λ (r : Going). r.txn.session) d.1, subst (λ (i : ℕ). IsHere i new run) s (begun_here site txn keys old new run d.0 d.1))

-- ---- an op of a running attempt

-- whatever ops it has done
kept_here : (site : ℕ) (pass : View) (run now : Going) (ops : List Op) → now ≡ record run { ops = ops } → IsHere site pass run → IsHere site pass now
kept_here site pass run now ops e h =
    subst (λ (r : Going). IsHere site pass r) (sym e) (record { site_is = h.site_is; fixed = h.fixed; begins = h.begins; last = h.last })

pub op_here : (run now : Going) (op : Op) (old new : View) (answer : OpAnswer) → IsHere 1 old run → Went old new → OpDone run now op old new answer
    → (now.txn.session ≡ run.txn.session) × IsHere 1 new now
op_here run now op old new answer h w d = by answer d
  where
    does : Rested (Session run.txn.session) old new → now ≡ record run { ops = run.ops ++ op ∷ [] }
        → (now.txn.session ≡ run.txn.session) × IsHere 1 new now
    does r e = (ap (λ (g : Going). g.txn.session) e, kept_here 1 new run now (run.ops ++ op ∷ []) e (here_on 1 run old new h w r))

    by : (answer : OpAnswer) → OpDone run now op old new answer → (now.txn.session ≡ run.txn.session) × IsHere 1 new now
    by (op_answer.Value v) d = does d.0 d.1
    by op_answer.Done d = does d.0 d.1
    by op_answer.Dropped d =
        (ap (λ (g : Going). g.txn.session) d.0, subst (λ (g : Going). IsHere 1 new g) (sym d.0) (here_on 1 run old new h w d.1.0))

-- ---- what is left of the session

module _ (table : TableId) (at : Seat) (seated : IsSeated table at) (pass : View) (went : Went at.pass pass) where
  goes_on : IsPassOf table at.session pass
  goes_on = (went.table ∙ seated.own.0, went.actors ∙ seated.own.1)

  its_layout : layout_of pass ≡ at.schema
  its_layout = went_layout at.pass pass went ∙ seated.layout

  -- it runs nothing, and has routed nothing
  pub seat_free : (going : Option Going) (routed : Option TxnId) → going ≡ None → routed ≡ None
      → IsSeated table (record at { pass = pass; going = going; routed = routed })
  seat_free going routed g r = record {
    own = goes_on;
    layout = its_layout;
    runs = subst (λ (o : Option Going). IfSome o (λ run. (run.txn.session ≡ at.session) × IsHere 1 pass run)) (sym g) tt;
    stands = subst (λ (o : Option TxnId). IfSome o (λ txn. (txn.session ≡ at.session) × IsRoutedIn pass txn)) (sym r) tt;
    alone = subst (λ (o : Option Going). IfSome o (λ run. routed ≡ None)) (sym g) tt;
  }

  -- it runs an attempt
  pub seat_runs : (run : Going) (routed : Option TxnId) → routed ≡ None → run.txn.session ≡ at.session → IsHere 1 pass run
      → IsSeated table (record at { pass = pass; going = Some run; routed = routed })
  seat_runs run routed r s h = record {
    own = goes_on;
    layout = its_layout;
    runs = (s, h);
    stands = subst (λ (o : Option TxnId). IfSome o (λ txn. (txn.session ≡ at.session) × IsRoutedIn pass txn)) (sym r) tt;
    alone = r;
  }

  -- an attempt stands routed
  pub seat_routed : (going : Option Going) (txn : TxnId) → going ≡ None → txn.session ≡ at.session → IsRoutedIn pass txn
      → IsSeated table (record at { pass = pass; going = going; routed = Some txn })
  seat_routed going txn g s i = record {
    own = goes_on;
    layout = its_layout;
    runs = subst (λ (o : Option Going). IfSome o (λ run. (run.txn.session ≡ at.session) × IsHere 1 pass run)) (sym g) tt;
    stands = (s, i);
    alone = subst (λ (o : Option Going). IfSome o (λ run. Some txn ≡ None)) (sym g) tt;
  }

-- what is known of what it runs
pub of_some : {T : Type 0} (of : T → Going) (P : Going → Type 0) (o taken : Option T) (x : T) → taken ≡ o → taken ≡ Some x → IfSome (option_map of o) P
    → P (of x)
of_some {T} of P o taken x a b p = subst (λ (o : Option T). IfSome (option_map of o) P) (sym a ∙ b) p
