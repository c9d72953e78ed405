-- What a routed attempt may do, and what stays of its Route.
use Rattle.std.proofs.Common.{ℕ, ◌≡◌, Bool, true, false, not, ◌==◌, nat_lt, ◌||◌, cond, List, [], ◌∷◌, Option, Some, None, length, refl, sym, ap, ◌∙◌}
use Rattle.std.proofs.Common.{subst, inl, inr}
use Rattle.std.proofs.Common.{unwrap_or}
use Rattle.std.proofs.lemmas.Bool.{eq-eqb, false≢true, and_parts, and_from, or_parts, le-ltb}
use Rattle.std.specs.Option.{option_or}
use Rattle.std.specs.Prelude.{reverse, is_some, option_map, option_and_then}
use Rattle.dm_chronicle.specs.Belongs.{belongs}
use Rattle.dm_chronicle.specs.Rule.{In}
use Rattle.dm_event.proofs.Sites.{find_nothing}
use Rattle.dm_event.specs.Actors.{actors}
use Rattle.dm_event.specs.Layout.{Layout, is_site}
use Rattle.dm_event.specs.Txns.{same_txn}
use Rattle.dm_event.specs.Vectors.{at, sites_to, first_above, AtMost}
use Rattle.dm_event.specs.declared.actor.Actor.TheVariants.{Session}
use Rattle.dm_event.specs.declared.attempt.AttemptState.{AttemptState}
use Rattle.dm_event.specs.declared.attempt.AttemptState.TheVariants as stands
use Rattle.dm_event.specs.declared.step.Cause.{Cause}
use Rattle.dm_event.specs.declared.step.Cause.TheVariants as cause
use Rattle.dm_event.specs.declared.step.Pending.TheVariants as pending
use Rattle.dm_event.specs.declared.step.Step.{Step}
use Rattle.dm_event.specs.declared.step.Step.TheVariants.{Route, Reply, Begin, Moved, Commit, End, Fail, Doubt, Restart}
use Rattle.dm_event.specs.declared.step.TxnId.{TxnId}
use Rattle.dm_event.specs.declared.step.Want.TheVariants.{Txn}
use Rattle.dm_event.specs.declared.why.Why.TheVariants as why
use Rattle.dm_model.proofs.ClausesHold.{holds_none}
use Rattle.dm_model.proofs.Judged.{shape_of}
use Rattle.dm_model.proofs.ListFacts.{found_holds}
use Rattle.dm_model.proofs.RunningIsLast.{seated}
use Rattle.dm_model.proofs.StandingRoutes.{routed_stands}
use Rattle.dm_model.proofs.VectorFacts.{long_by}
use Rattle.dm_model.specs.Allowed.{Allowed, elsewhere, holder, holder_among}
use Rattle.dm_model.specs.Attempts.{Routing, routing_of, declared, wanted_keys, routed, routed_txn, wants_txn, last_routing, state, dropped_at}
use Rattle.dm_model.specs.Attempts.{is_routed}
use Rattle.dm_model.specs.Clauses.{at_site}
use Rattle.dm_model.specs.Doubts.{is_down}
use Rattle.dm_model.specs.Legal.{Legal, LegalPast}
use Rattle.dm_model.specs.Progress.{site_vector, reached}
use Rattle.dm_model.specs.Runs.{running, runs, run_site}
use Rattle.dm_model.specs.Shape.{is_shaped, is_txn, is_cause, is_cause_at}
use Rattle.dm_model.specs.Words.{latest, option_filter}
use Rattle.dm_next.proofs.Running.{may_come, numbers_own, at_this}
use Rattle.dm_others.proofs.Once.{sent_routing}
use Rattle.dm_others.specs.Adding.{AddsOthers}
use Rattle.dm_others.proofs.Growing.{grown}
use Rattle.dm_next.specs.Routed.{IsRouted}

-- ---- what stands in a legal past

-- has its shape
pub shaped_in : (layout : Layout) (past : List Step) (s : Step) → LegalPast layout past → In s past → is_shaped layout s ≡ true
shaped_in layout [] s l h = absurd h
shaped_in layout (x ∷ past) s l (inl e) = subst (λ (y : Step). is_shaped layout y ≡ true) e (shape_of layout past x l.1)
shaped_in layout (x ∷ past) s l (inr h) = shaped_in layout past s l.0 h

-- ---- an attempt's Route

some_in : {A : Type 0} {u v : A} → Some u ≡ Some v → u ≡ v
some_in z = cc (z)

-- the Route that is the latest of some stands in the list
pub latest_in : (p : TxnId → Bool) (past : List Step) (r : Routing) → latest (routing_of p) past ≡ Some r → In (Route r.txn r.want r.min r.site r.choice) past
latest_in p [] r e = absurd (cc (e))
latest_in p (Route txn want min site choice ∷ past) r e = by (p txn) e (λ g. latest_in p past r g)
  where
    n : Routing
    n = record { txn = txn; want = want; min = min; site = site; choice = choice }

    by : (x : Bool) → option_or (cond x (Some n) None) (latest (routing_of p) past) ≡ Some r
        → (latest (routing_of p) past ≡ Some r → In (Route r.txn r.want r.min r.site r.choice) past)
        → In (Route r.txn r.want r.min r.site r.choice) (Route txn want min site choice ∷ past)
    by true g rest = inl (ap (λ (z : Routing). Route z.txn z.want z.min z.site z.choice) (some_in g))
    by false g rest = inr (rest g)
latest_in p (other ∷ past) r e = inr (latest_in p past r e)

-- ---- the Route by which an attempt stands routed

pub record Sent (past : List Step) (txn : TxnId) : Type 0 where
  pub route : Routing
  pub by : routed txn past ≡ Some route
  pub stands_in : In (Route txn route.want route.min route.site route.choice) past

pub routed_sent : (past : List Step) (txn : TxnId) → is_some (routed txn past) ≡ true → Sent past txn
routed_sent past t h =
    let s = routed_stands past t h in
    record {
      route = s.route;
      by = s.by;
      stands_in = subst (λ (v : TxnId). In (Route v s.route.want s.route.min s.route.site s.route.choice) past) (sym s.same)
          (latest_in (λ (v : TxnId). v.session == t.session) past s.route s.last);
    }

-- who stands routed is in range
pub routed_fits : (layout : Layout) (past : List Step) (txn : TxnId) → LegalPast layout past → is_some (routed txn past) ≡ true → is_txn layout txn ≡ true
routed_fits layout past t l h =
    let s = routed_sent past t h in
    (and_parts (is_txn layout t) _ (shaped_in layout past (Route t s.route.want s.route.min s.route.site s.route.choice) l s.stands_in)).0

-- and runs nowhere
pub routed_idle : (layout : Layout) (past : List Step) (txn : TxnId) → LegalPast layout past → is_some (routed txn past) ≡ true
    → run_site layout past txn ≡ None
routed_idle layout past t l h = by (run_site layout past t) refl
  where
    by : (o : Option ℕ) → run_site layout past t ≡ o → o ≡ None
    by None e = refl
    by (Some k) e =
        absurd (false≢true (ap is_routed (sym (seated layout past l k t (found_holds (λ j. runs j t past) (sites_to layout.sites) k e)).runs)
        ∙ (routed_stands past t h).state))

-- whatever it was sent for, and wherever, it may fail there for a cause of the site
pub may_fail_routed : (layout : Layout) (past : List Step) (site : ℕ) (txn : TxnId) (cause : Cause) → LegalPast layout past → is_site layout site ≡ true
    → is_some (routed txn past) ≡ true → is_cause layout cause ≡ true → is_cause_at layout site cause ≡ true
    → Allowed layout past (Fail site txn cause)
may_fail_routed layout past site t cause l there h a b =
    may_come layout past (Fail site t cause) (and_from _ _ there (and_from _ _ (routed_fits layout past t l h) (and_from _ _ a b))) (
      holds_none _ _ (ap (λ (x : Bool). x || is_some (run_site layout past t)) h),
      (
        ap (λ (o : Option ℕ). at_site o site) (routed_idle layout past t l h),
        tt,
      ),
    )

pub may_log_routed : (layout : Layout) (past : List Step) (site : ℕ) (txn : TxnId) → LegalPast layout past → is_site layout site ≡ true
    → is_some (routed txn past) ≡ true → Allowed layout past (Fail site txn (cause.Log site))
may_log_routed layout past site t l there h = may_fail_routed layout past site t (cause.Log site) l there h there (eq-eqb site site refl)

pub may_forget_routed : (layout : Layout) (past : List Step) (site : ℕ) (txn : TxnId) → LegalPast layout past → is_site layout site ≡ true
    → is_some (routed txn past) ≡ true → Allowed layout past (Fail site txn cause.Memory)
may_forget_routed layout past site t l there h = may_fail_routed layout past site t cause.Memory l there h refl refl

-- ---- a Begin and a Moved

pub none_above : (u v : List ℕ) → AtMost u v → first_above u v ≡ None
none_above u v h = find_nothing (λ site. nat_lt (at v site) (at u site)) 1 (length u) (λ j a b. le-ltb (at v j) (at u j) (h j))

module _ (layout : Layout) (past : List Step) (l : LegalPast layout past) (site : ℕ) (there : is_site layout site ≡ true) (txn : TxnId) (keys min : List ℕ)
    (r : IsRouted site txn keys min past) where
  stands_routed : is_some (routed txn past) ≡ true
  stands_routed = ap (λ (o : Option Routing). is_some o) r.1

  for_txn : routed_txn txn past ≡ Some (record { txn = txn; want = Txn keys; min = min; site = site; choice = r.0 })
  for_txn = ap (λ (o : Option Routing). option_filter (λ r. wants_txn r.want) o) r.1

  -- its Route stands in the list
  pub route_in : In (Route txn (Txn keys) min site r.0) past
  route_in =
      let s = routed_sent past txn stands_routed in
      subst (λ (z : Routing). In (Route txn z.want z.min z.site z.choice) past) (some_in (sym s.by ∙ r.1)) s.stands_in

  pub its_keys : declared txn past ≡ keys
  its_keys =
      ap (λ (o : Option Routing). unwrap_or (option_map (λ r. wanted_keys r.want) o) []) (sent_routing layout past txn (Txn keys) min site r.0 l route_in)

  pub its_txn : is_txn layout txn ≡ true
  its_txn = routed_fits layout past txn l stands_routed

  to_here : at_site (option_map (λ r. r.site) (routed_txn txn past)) site ≡ None
  to_here = at_this site (option_map (λ r. r.site) (routed_txn txn past)) (ap (λ (o : Option Routing). option_map (λ r. r.site) o) for_txn)

  pub may_begin : is_down site past ≡ false → elsewhere layout past site keys ≡ None → AtMost min (site_vector layout.sites past site)
      → holder_among keys (running site past) past ≡ None
      → Allowed layout past (Begin site txn (site_vector layout.sites past site))
  may_begin up here most free =
      may_come layout past (Begin site txn v)
      (and_from _ _ there (and_from _ _ its_txn (eq-eqb (length v) layout.sites (long_by layout.sites (λ j. reached site j past))))) (
        holds_none _ _ (ap (λ (o : Option Routing). is_some (option_map (λ r. r.site) o)) for_txn),
        (
          to_here,
          (
            holds_none _ _ (ap (λ (b : Bool). not b) up),
            (
              ap (λ (ks : List ℕ). option_map why.Elsewhere (elsewhere layout past site ks)) its_keys ∙ ap (λ (o : Option ℕ). option_map why.Elsewhere o) here,
              (
                holds_none _ _ (numbers_own v),
                (
                  ap (λ (o : Option Routing). option_map why.Behind (option_and_then (λ r. first_above r.min v) o)) for_txn
                      ∙ ap (λ (o : Option ℕ). option_map why.Behind o) (none_above min v most),
                  (
                    ap (λ (ks : List ℕ). option_map (λ (held : TxnId × ℕ). why.Held held.0 held.1) (holder site ks past)) its_keys
                        ∙ ap (λ (o : Option (TxnId × ℕ)). option_map (λ (held : TxnId × ℕ). why.Held held.0 held.1) o) free,
                    tt,
                  ),
                ),
              ),
            ),
          ),
        ),
      )
    where
      v : List ℕ
      v = site_vector layout.sites past site

  pub may_move : is_down site past ≡ false → is_some (elsewhere layout past site keys) ≡ true → Allowed layout past (Moved site txn)
  may_move up away =
      may_come layout past (Moved site txn) (and_from _ _ there its_txn) (
        holds_none _ _ (ap (λ (o : Option Routing). is_some (option_map (λ r. r.site) o)) for_txn),
        (
          to_here,
          (
            holds_none _ _ (ap (λ (b : Bool). not b) up),
            (
              holds_none _ _ (ap (λ (ks : List ℕ). is_some (elsewhere layout past site ks)) its_keys ∙ away),
              tt,
            ),
          ),
        ),
      )

  pub may_fail_sent : (cause : Cause) → is_cause layout cause ≡ true → is_cause_at layout site cause ≡ true → Allowed layout past (Fail site txn cause)
  may_fail_sent cause a b = may_fail_routed layout past site txn cause l there stands_routed a b

-- ---- it stays routed while its session has no step

abbrev stands_so : TxnId → AttemptState → Option Routing → Option Routing
stands_so t st last = option_filter (λ r. same_txn t r.txn) (cond (is_routed st) last None)

drop_same : (k : ℕ) (st : AttemptState) → is_routed (dropped_at k st) ≡ is_routed st
drop_same k (stands.Running site) = by (site == k)
  where
    by : (b : Bool) → is_routed (cond b stands.Dropped (stands.Running site)) ≡ false
    by true = refl
    by false = refl
drop_same k other = refl

moved_r : (t : TxnId) (b : Bool) (x st : AttemptState) (last : Option Routing) (r : Routing) → b ≡ false → stands_so t st last ≡ Some r
    → stands_so t (unwrap_or (cond b (Some x) None) st) last ≡ Some r
moved_r t true x st last r f h = absurd (false≢true (sym f))
moved_r t false x st last r f h = h

dropped_r : (t : TxnId) (k : ℕ) (st : AttemptState) (last : Option Routing) (r : Routing) → stands_so t st last ≡ Some r
    → stands_so t (dropped_at k st) last ≡ Some r
dropped_r t k st last r h = ap (λ (b : Bool). option_filter (λ (x : Routing). same_txn t x.txn) (cond b last None)) (drop_same k st) ∙ h

route_r : (t : TxnId) (b : Bool) (x st : AttemptState) (n : Routing) (last : Option Routing) (r : Routing) → b ≡ false → stands_so t st last ≡ Some r
    → stands_so t (unwrap_or (cond b (Some x) None) st) (option_or (cond b (Some n) None) last) ≡ Some r
route_r t true x st n last r f h = absurd (false≢true (sym f))
route_r t false x st n last r f h = h

pub routed_other : (past : List Step) (x : Step) (txn : TxnId) (r : Routing) → belongs actors x (Session txn.session) ≡ false → routed txn past ≡ Some r
    → routed txn (x ∷ past) ≡ Some r
routed_other past (Route txn want min site choice) t r b h =
    route_r t (txn.session == t.session) (stands.Routed site choice) (state t.session past)
    (record { txn = txn; want = want; min = min; site = site; choice = choice }) (last_routing t.session past) r (or_parts _ _ b).0 h
routed_other past (Reply session number said) t r b h =
    moved_r t (session == t.session) stands.Unrouted (state t.session past) (last_routing t.session past) r (or_parts _ _ b).0 h
routed_other past (Begin site txn begin) t r b h =
    moved_r t (txn.session == t.session) (stands.Running site) (state t.session past) (last_routing t.session past) r b h
routed_other past (Moved site txn) t r b h = moved_r t (txn.session == t.session) stands.Moved (state t.session past) (last_routing t.session past) r b h
routed_other past (Commit e) t r b h =
    moved_r t (e.txn.session == t.session) (stands.Committed e.origin e.seq) (state t.session past) (last_routing t.session past) r b h
routed_other past (End site txn ops reads) t r b h =
    moved_r t (txn.session == t.session) (stands.Ended site) (state t.session past) (last_routing t.session past) r b h
routed_other past (Fail site txn cause) t r b h =
    moved_r t (txn.session == t.session) (stands.Failed cause) (state t.session past) (last_routing t.session past) r b h
routed_other past (Doubt site (pending.Commit e)) t r b h =
    moved_r t (e.txn.session == t.session) (stands.Doubted site) (dropped_at site (state t.session past)) (last_routing t.session past) r b
    (dropped_r t site (state t.session past) (last_routing t.session past) r h)
routed_other past (Doubt site (pending.Release part epoch to v)) t r b h = dropped_r t site (state t.session past) (last_routing t.session past) r h
routed_other past (Doubt site (pending.Grant part epoch v)) t r b h = dropped_r t site (state t.session past) (last_routing t.session past) r h
routed_other past (Restart site vector found) t r b h = dropped_r t site (state t.session past) (last_routing t.session past) r h
routed_other past other t r b h = h

pub routed_on : (layout : Layout) (old new : List Step) (txn : TxnId) (r : Routing) → Legal layout new → AddsOthers (Session txn.session) old new
    → routed txn (reverse old) ≡ Some r → routed txn (reverse new) ≡ Some r
routed_on layout old new t r l a h =
    grown layout (Session t.session) (λ past. routed t past ≡ Some r) (λ past x m b q. routed_other past x t r b q) old new a.0 a.1 l h

pub is_routed_on : (layout : Layout) (old new : List Step) (site : ℕ) (txn : TxnId) (keys min : List ℕ) → Legal layout new
    → AddsOthers (Session txn.session) old new → IsRouted site txn keys min (reverse old) → IsRouted site txn keys min (reverse new)
is_routed_on layout old new i t keys min l a h =
    (h.0, routed_on layout old new t (record { txn = t; want = Txn keys; min = min; site = i; choice = h.0 }) l a h.1)
