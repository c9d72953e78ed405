-- Placings and restarts by hand.
use Rattle.std.proofs.Common.{◌≡◌, ℕ, ◌+◌, Bool, true, false, ◌==◌, ◌&&◌, List, [], ◌∷◌, ◌++◌, Option, Some, None, refl, sym, ap, ◌∙◌, subst, append-nil, if◌then◌else◌, unwrap_or}
use Rattle.std.proofs.lemmas.Bool.{eq-eqb, and_from, or_left}
use Rattle.std.proofs.lemmas.List.{reverse-append, reverse-reverse}
use Rattle.std.specs.List.{cons_option}
use Rattle.std.specs.Option.{option_map_or}
use Rattle.std.specs.Prelude.{reverse, filter_map, Result, Ok, Err, IfOk, IfErr, OnOk}
use Rattle.dm_session.proofs.Carried.{RoutedSo, routed_last}
use Rattle.dm_answers.specs.declared.item.Item.{Item}
use Rattle.dm_answers.specs.declared.item.Item.TheVariants.{Place, Restart as RestartItem}
use Rattle.dm_sites.proofs.Ways.{ready_memory, ready_failed, ready_after}
use Rattle.dm_sites.specs.Telling.{bare, cause_of, IsRoutable, OnWay, IsReady}
use Rattle.dm_client.specs.Moves.{BroughtAs, said_brought, said_restarted}
use Rattle.dm_site.specs.Answers.{Saw}
use Rattle.dm_sites.specs.Stages.{RestartedFor, StoppedAs}
use Rattle.dm_sites.specs.declared.stop.Stop.{Stop}
use Rattle.dm_sites.specs.declared.stop.Stop.TheVariants as stop
use Rattle.dm_client.specs.declared.bringing.Brought.{Brought}
use Rattle.dm_client.specs.declared.bringing.Brought.TheVariants as brought
use Rattle.dm_sites.specs.declared.told.Told.{Told}
use Rattle.dm_core.specs.Lawful.{Terms}
use Rattle.dm_event.specs.Layout.{Layout}
use Rattle.dm_event.specs.declared.actor.Actor.TheVariants.{Session}
use Rattle.dm_event.specs.declared.attempt.AttemptState.{AttemptState}
use Rattle.dm_event.specs.declared.placing.Placing.{Placing}
use Rattle.dm_event.specs.declared.placing.Placing.TheVariants.{Settled}
use Rattle.dm_event.specs.declared.step.Cause.TheVariants as cause
use Rattle.dm_event.specs.declared.step.Choice.{Choice}
use Rattle.dm_event.specs.declared.step.Found.{Found}
use Rattle.dm_event.specs.declared.step.Said.TheVariants as said
use Rattle.dm_event.specs.declared.step.Step.{Step}
use Rattle.dm_event.specs.declared.actor.Actor.TheVariants.{Session}
use Rattle.dm_invariant.specs.Stations.{Rested, View, Went, layout_of, no_terms, own}
use Rattle.dm_invariant.specs.Running.{RoutedFor}
use Rattle.dm_event.specs.declared.step.Step.TheVariants.{Route, Fail, Restart}
use Rattle.dm_event.specs.declared.step.TxnId.{TxnId}
use Rattle.dm_event.specs.declared.step.Want.{Want}
use Rattle.dm_event.specs.declared.step.Want.TheVariants as want
use Rattle.dm_model.specs.Attempts.{Routing, state, last_routing, standing, is_routed, is_route}
use Rattle.dm_model.specs.Outcomes.{may_give_up, is_routed_for, wants_place, wants_restart, settled_epochs, settled_epoch, placings_since, restarted_since}
use Rattle.dm_model.specs.Placings.{placing}
use Rattle.dm_event.specs.Layout.{is_part, is_site}
use Rattle.dm_model.specs.Tests.{is_among}
use Rattle.dm_session.specs.Sitting.{Sitting, Sent, Between}

-- ---- the Route by hand

pub place_way : (a b : Sitting) (part to : ℕ) (txn : TxnId) → Went a.pass b.pass → Sent a (want.Place part) to txn b → OnWay a.id (a.count + 1) (Place part to) None a.pass b.pass (Some txn)
place_way a b part to txn w s = record { went = w; way = Route txn (want.Place part) a.vector b.to b.by ∷ []; steps = s.did; tries = (((s.session, s.number), (refl, s.site_due, s.choice_due)), tt); last_is = refl }

pub restart_way : (a b : Sitting) (to : ℕ) (txn : TxnId) → Went a.pass b.pass → Sent a want.Restart to txn b → OnWay a.id (a.count + 1) (RestartItem to) None a.pass b.pass (Some txn)
restart_way a b to txn w s = record { went = w; way = Route txn want.Restart a.vector b.to b.by ∷ []; steps = s.did; tries = (((s.session, s.number), (refl, s.site_due, s.choice_due)), tt); last_is = refl }

pub ready_sent : (item : Item) (a b : Sitting) (wanted : Want) (site : ℕ) (txn : TxnId) (new : View) (told : Told) → IsRoutable item → OnWay a.id (a.count + 1) item None a.pass b.pass (Some txn) → Sent a wanted site txn b
    → IsReady txn.session txn.number item a.vector (Some txn) b.pass new told → IsReady a.id (a.count + 1) item a.vector None a.pass new told
ready_sent item a b wanted site txn new told r p s h =
    let h1 = subst (λ (c : ℕ). IsReady c txn.number item a.vector (Some txn) b.pass new told) s.session h in
    let h2 = subst (λ (n : ℕ). IsReady a.id n item a.vector (Some txn) b.pass new told) s.number h1 in
    ready_after a.id (a.count + 1) item a.vector None (Some txn) a.pass b.pass new told r p h2

-- the site of a Route by hand is the one that was given
pub routed_there : (a b : Sitting) (wanted : Want) (to : ℕ) (txn : TxnId) → Sent a wanted to txn b → b.to ≡ to → RoutedFor txn wanted a.vector to b.pass
routed_there a b wanted to txn s e =
    subst (λ (c : ℕ). (before : List Step) × (by : Choice) × (own (Session c) b.pass.seen ≡ before ++ Route txn wanted a.vector to by ∷ [])) (sym s.session)
    (own (Session a.id) a.pass.seen, b.by, s.did ∙ ap (λ (k : ℕ). own (Session a.id) a.pass.seen ++ Route txn wanted a.vector k b.by ∷ []) e)

-- ---- what may be said then

module _ (txn : TxnId) (wanted : Want) (min : List ℕ) (to : ℕ) (old new : View) (routed : RoutedFor txn wanted min to old) (went : Went old new) (kept : Rested (Session txn.session) old new) where
  so : RoutedSo txn.session (record { txn = txn; want = wanted; min = min; site = to; choice = routed.1 }) (reverse new.seen)
  so = routed_last txn.session (record { txn = txn; want = wanted; min = min; site = to; choice = routed.1 }) new.seen routed.0 refl (kept ∙ routed.2)

  for_it : (p : Want → Bool) → p wanted ≡ true → is_routed_for txn.session to p (reverse new.seen) ≡ true
  for_it p h =
      let stands : standing txn.session (reverse new.seen) ≡ Some (record { txn = txn; want = wanted; min = min; site = to; choice = routed.1 }) =
      ap (λ (st : AttemptState). if is_routed st then last_routing txn.session (reverse new.seen) else None) so.0 ∙ so.1 in
      ap (λ (o : Option Routing). option_map_or (λ r. (r.site == to) && p r.want) o false) stands ∙ and_from (to == to) (p wanted) (eq-eqb to to refl) h

  gives_up : may_give_up (state txn.session (reverse new.seen)) ≡ true
  gives_up = ap may_give_up so.0

settled_now : (layout : Layout) (c part site epoch : ℕ) (past : List Step) → (past ≡ [] → ⊥) → placing layout past part ≡ Settled site epoch
    → is_among (settled_epochs layout past c part site) epoch ≡ true
settled_now layout c part site epoch [] some h = absurd (some refl)
settled_now layout c part site epoch (s ∷ past) some h =
    let rest : List Placing = if is_route c s then [] else placings_since layout past c part in
    let e : settled_epoch site (placing layout (s ∷ past) part) ≡ Some epoch =
    ap (settled_epoch site) h ∙ ap (λ (b : Bool). if b then Some epoch else None) (eq-eqb site site refl) in
    ap (λ (o : Option ℕ). is_among (cons_option o (filter_map (settled_epoch site) rest)) epoch) e ∙ or_left (epoch == epoch) _ (eq-eqb epoch epoch refl)

restarted_now : (c site : ℕ) (vector : List ℕ) (found : Found) (old new : View) → Saw old new (Restart site vector found)
    → restarted_since c site (reverse new.seen) ≡ true
restarted_now c site vector found old new h =
    let s : Step = Restart site vector found in
    ap (λ (l : List Step). restarted_since c site (reverse l)) h.2
    ∙ (ap (restarted_since c site) (reverse-append h.0 (s ∷ [])) ∙ or_left (site == site) _ (eq-eqb site site refl))

nonempty : (xs before : List Step) (s : Step) (c : ℕ) → own (Session c) xs ≡ before ++ s ∷ [] → reverse xs ≡ [] → ⊥
nonempty xs before s c h e = ends before (sym (ap (own (Session c)) (sym (reverse-reverse xs) ∙ ap (λ (l : List Step). reverse l) e)) ∙ h)
  where
    ends : (ys : List Step) → [] ≡ ys ++ s ∷ [] → ⊥
    ends [] g = cc (g)
    ends (y ∷ ys) g = cc (g)

-- what stopped it is the answer
pub ready_stopped : (item : Item) → IsRoutable item → (txn : TxnId) (wanted : Want) (min : List ℕ) (to : ℕ) (least : List ℕ) (old new : View) (s : Stop)
    → RoutedFor txn wanted min to old → Went old new → StoppedAs txn old new s
    → IsReady txn.session txn.number item least (Some txn) old new (bare (said.Refused (cause_of s)) txn)
ready_stopped item r txn wanted min to least old new (stop.Failed why) routed went h =
    ready_failed txn.session txn.number item least (Some txn) old new (bare (said.Refused why) txn) r went (Fail h.0 txn why ∷ []) h.1.0
    ((refl, refl), tt) refl refl refl h.0 txn why [] refl refl h.1.1 h.1.2 refl
ready_stopped item r txn wanted min to least old new stop.NoMemory routed went h =
    ready_memory txn.session txn.number item least (Some txn) old new (bare (said.Refused cause.Memory) txn) r went []
    (h ∙ sym (append-nil (own (Session txn.session) old.seen))) tt refl refl refl refl (gives_up txn wanted min to old new routed went h)

between_rested : (txn : TxnId) (old new : View) → Rested (Session txn.session) old new → Between txn.session old.seen new.seen
between_rested txn old new k = ([], k ∙ sym (append-nil (own (Session txn.session) old.seen)), tt)

pub between_stopped : (txn : TxnId) (old new : View) (s : Stop) → StoppedAs txn old new s → Between txn.session old.seen new.seen
between_stopped txn old new (stop.Failed why) h = (Fail h.0 txn why ∷ [], h.1.0, ((refl, refl), tt))
between_stopped txn old new stop.NoMemory h = between_rested txn old new h

pub place_ready : (txn : TxnId) (part to : ℕ) (min least : List ℕ) (old new : View) (b : Result Brought Stop) (told : Told)
    → RoutedFor txn (want.Place part) min to old → Went old new → IfOk b (BroughtAs txn part to old new) → IfErr b (StoppedAs txn old new)
    → is_part (layout_of new) part ≡ true → is_site (layout_of new) to ≡ true
    → told ≡ record { said = said_brought part to b; txn = Some txn; reads = []; vector = None }
    → IsReady txn.session txn.number (Place part to) least (Some txn) old new told
place_ready txn part to min least old new b told routed went done stopped part_is there e =
    subst (λ (x : Told). IsReady txn.session txn.number (Place part to) least (Some txn) old new x) (sym e) (by b done stopped)
  where
    by : (b : Result Brought Stop) → IfOk b (BroughtAs txn part to old new) → IfErr b (StoppedAs txn old new)
        → IsReady txn.session txn.number (Place part to) least (Some txn) old new (bare (said_brought part to b) txn)
    by (Ok (brought.There epoch)) k s = record {
      went = went;
      way = [];
      steps = k.0 ∙ sym (append-nil (own (Session txn.session) old.seen));
      tries = tt;
      last_is = refl;
      fits = (refl, refl);
      tells = (refl, refl);
      shaped = and_from _ _ part_is there;
      may = and_from _ _ (for_it txn (want.Place part) min to old new routed went k.0 (wants_place part) (eq-eqb part part refl))
          (settled_now (layout_of new) txn.session part to epoch (reverse new.seen) (nonempty new.seen routed.0 _ txn.session (k.0 ∙ routed.2)) k.1);
    }
    by (Ok brought.Elsewhere) k s =
        ready_memory txn.session txn.number (Place part to) least (Some txn) old new (bare (said.Refused cause.Memory) txn) tt went []
        (k ∙ sym (append-nil (own (Session txn.session) old.seen))) tt refl refl refl refl (gives_up txn (want.Place part) min to old new routed went k)
    by (Err stop) k s = ready_stopped (Place part to) tt txn (want.Place part) min to least old new stop routed went s

-- ---- restarts

pub restart_ready : (txn : TxnId) (to : ℕ) (min least : List ℕ) (old new : View) (b : Result Unit Stop) (told : Told)
    → RoutedFor txn want.Restart min to old → Went old new → OnOk b (RestartedFor txn to old new) → IfErr b (StoppedAs txn old new)
    → is_site (layout_of new) to ≡ true → told ≡ record { said = said_restarted to b; txn = Some txn; reads = []; vector = None }
    → IsReady txn.session txn.number (RestartItem to) least (Some txn) old new told
restart_ready txn to min least old new b told routed went done stopped there e =
    subst (λ (x : Told). IsReady txn.session txn.number (RestartItem to) least (Some txn) old new x) (sym e) (by b done stopped)
  where
    by : (b : Result Unit Stop) → OnOk b (RestartedFor txn to old new) → IfErr b (StoppedAs txn old new)
        → IsReady txn.session txn.number (RestartItem to) least (Some txn) old new (bare (said_restarted to b) txn)
    by (Ok done) k s = record {
      went = went;
      way = [];
      steps = k.0 ∙ sym (append-nil (own (Session txn.session) old.seen));
      tries = tt;
      last_is = refl;
      fits = refl;
      tells = (refl, refl);
      shaped = there;
      may = and_from _ _ (for_it txn want.Restart min to old new routed went k.0 wants_restart refl)
          (restarted_now txn.session to k.1.0 k.1.1 old new k.1.2);
    }
    by (Err stop) k s = ready_stopped (RestartItem to) tt txn want.Restart min to least old new stop routed went s

pub part_on : (old new : View) (part : ℕ) → Went old new → is_part (layout_of old) part ≡ true → is_part (layout_of new) part ≡ true
part_on old new part w h = subst (λ (o : Option Terms). is_part (unwrap_or o no_terms).layout part ≡ true) (sym w.fixed) h

-- ---- no Route or Reply of the session came

pub between_brought : (txn : TxnId) (part to : ℕ) (old new : View) (b : Result Brought Stop) → IfOk b (BroughtAs txn part to old new)
    → IfErr b (StoppedAs txn old new) → Between txn.session old.seen new.seen
between_brought txn part to old new (Ok (brought.There epoch)) k s = between_rested txn old new k.0
between_brought txn part to old new (Ok brought.Elsewhere) k s = between_rested txn old new k
between_brought txn part to old new (Err stop) k s = between_stopped txn old new stop s

pub between_restarted : (txn : TxnId) (to : ℕ) (old new : View) (b : Result Unit Stop) → OnOk b (RestartedFor txn to old new)
    → IfErr b (StoppedAs txn old new) → Between txn.session old.seen new.seen
between_restarted txn to old new (Ok done) k s = between_rested txn old new k.0
between_restarted txn to old new (Err stop) k s = between_stopped txn old new stop s
