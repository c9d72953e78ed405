-- An attempt runs at a site exactly where its session's state and attempt say so.
use Rattle.std.proofs.Common.{ℕ, ◌≡◌, ◌≢◌, Bool, true, false, ◌==◌, if◌then◌else◌, List, [], ◌∷◌, Option, Some, None, refl, sym, ap, ap₂, ◌∙◌, subst, inl, inr}
use Rattle.std.proofs.Common.{unwrap_or}
use Rattle.std.proofs.lemmas.Bool.{false≢true, eqb-true, eqb-false, eq-eqb, ne_eqb, false_from_ne_true}
use Rattle.std.specs.Option.{option_or}
use Rattle.std.specs.Prelude.{option_map}
use Rattle.dm_event.specs.Txns.{same_txn}
use Rattle.dm_event.specs.Layout.{Layout}
use Rattle.dm_event.specs.declared.attempt.Attempt.{Attempt}
use Rattle.dm_event.specs.declared.attempt.AttemptState.{AttemptState}
use Rattle.dm_event.specs.declared.attempt.AttemptState.TheVariants as stands
use Rattle.dm_event.specs.declared.step.Pending.TheVariants as pending
use Rattle.dm_event.specs.declared.step.Step.{Step}
use Rattle.dm_event.specs.declared.step.Step.TheVariants.{Route, Reply, Begin, Moved, Commit, End, Fail, Doubt, Restart}
use Rattle.dm_event.specs.declared.step.TxnId.{TxnId}
use Rattle.dm_model.proofs.AttemptStates.{item_routing}
use Rattle.dm_model.proofs.LegalSteps.{legal_begin, legal_moved, legal_commit, legal_end, legal_fail, doubted_commit}
use Rattle.dm_model.proofs.RunningIsLast.{Seated, seated}
use Rattle.dm_model.proofs.SameValues.{txn_same, txn_own}
use Rattle.dm_model.proofs.StandingRoutes.{Stands}
use Rattle.dm_model.proofs.StepTests.{state_or}
use Rattle.dm_model.specs.Allowed.{Allowed}
use Rattle.dm_model.specs.Attempts.{Routing, last_routing, is_reply, dropped_at, state, attempt, is_routed}
use Rattle.dm_model.specs.Legal.{LegalPast}
use Rattle.dm_model.specs.Runs.{runs, runs_after}
use Rattle.dm_model.specs.Words.{since, latest}

-- ---- an item that has been routed has its session's last Route

abbrev pub OfItem : AttemptState → Option Routing → Option Routing → Type 0
OfItem stands.Unrouted last item = Unit {0}
OfItem other last item = item ≡ last

abbrev pub OfItems : List Step → Type 0
OfItems past = (c : ℕ) → OfItem (state c past) (last_routing c past) (item_routing c past)

of_item_dropped : (site : ℕ) (st : AttemptState) (last item : Option Routing) → OfItem st last item → OfItem (dropped_at site st) last item
of_item_dropped site (stands.Running k) last item h = by (k == site)
  where
    by : (b : Bool) → OfItem (if b then stands.Dropped else stands.Running k) last item
    by true = h
    by false = h
of_item_dropped site other last item h = h

routed_of_item : (st : AttemptState) (last item : Option Routing) → OfItem st last item → is_routed st ≡ true → item ≡ last
routed_of_item (stands.Routed site choice) last item h q = h
routed_of_item other last item h q = absurd (false≢true q)

module _ (layout : Layout) (past : List Step) (seat : Seated past) (s : OfItems past) where
  stood : (txn : TxnId) → Stands past txn → (c : ℕ) → (txn.session == c) ≡ true → item_routing c past ≡ last_routing c past
  stood txn q c e = subst (λ (k : ℕ). item_routing k past ≡ last_routing k past) (eqb-true txn.session c e)
      (routed_of_item (state txn.session past) _ _ (s txn.session) q.state)

  ran_at_site : (txn : TxnId) (i : ℕ) → runs i txn past ≡ true → (c : ℕ) → (txn.session == c) ≡ true → item_routing c past ≡ last_routing c past
  ran_at_site txn i r c e =
      subst (λ (k : ℕ). item_routing k past ≡ last_routing k past) (eqb-true txn.session c e)
      (subst (λ (x : AttemptState). OfItem x (last_routing txn.session past) (item_routing txn.session past)) (seat i txn r).runs (s txn.session))

  pub of_items_step : (st : Step) → Allowed layout past st → OfItems (st ∷ past)
  of_items_step (Route txn want min site choice) h c = by (txn.session == c) (s c)
    where
      route : Routing
      route = record { txn = txn; want = want; min = min; site = site; choice = choice }

      by : (b : Bool) → OfItem (state c past) (last_routing c past) (item_routing c past)
          → OfItem (unwrap_or (if b then Some (stands.Routed site choice) else None) (state c past))
          (option_or (if b then Some route else None) (last_routing c past)) (option_or (if b then Some route else None) (item_routing c past))
      by true h = refl
      by false h = h
  of_items_step (Reply session number o) h c = by (session == c) (s c)
    where
      by : (b : Bool) → OfItem (state c past) (last_routing c past) (item_routing c past)
          → OfItem (unwrap_or (if b then Some stands.Unrouted else None) (state c past)) (last_routing c past)
          (last_routing c (if b then [] else Reply session number o ∷ since (is_reply c) past))
      by true h = tt
      by false h = h
  of_items_step (Moved site txn) h c =
      let q = (legal_moved layout past site txn h).routed.stands in
      state_or (λ st. OfItem st (last_routing c past) (item_routing c past)) (txn.session == c) stands.Moved (state c past) (stood txn q c) (λ e. s c)
  of_items_step (Begin site txn begin) h c =
      let q = (legal_begin layout past site txn begin h).routed.stands in
      state_or (λ st. OfItem st (last_routing c past) (item_routing c past)) (txn.session == c) (stands.Running site) (state c past) (stood txn q c) (λ e. s c)
  of_items_step (Commit e) h c =
      state_or (λ st. OfItem st (last_routing c past) (item_routing c past)) (e.txn.session == c) (stands.Committed e.origin e.seq) (state c past)
      (ran_at_site e.txn e.origin (legal_commit layout past e h).runs c) (λ q. s c)
  of_items_step (End site txn ops reads) h c =
      state_or (λ st. OfItem st (last_routing c past) (item_routing c past)) (txn.session == c) (stands.Ended site) (state c past)
      (ran_at_site txn site (legal_end layout past site txn ops reads h).runs c) (λ q. s c)
  of_items_step (Fail site txn cause) h c =
      state_or (λ st. OfItem st (last_routing c past) (item_routing c past)) (txn.session == c) (stands.Failed cause) (state c past)
      (λ e. elim (legal_fail layout past site txn cause h) [ inl q ↦ stood txn q c e | inr q ↦ ran_at_site txn site q c e ]) (λ q. s c)
  of_items_step (Doubt site (pending.Commit e)) h c =
      state_or (λ st. OfItem st (last_routing c past) (item_routing c past)) (e.txn.session == c) (stands.Doubted site) (dropped_at site (state c past))
      (ran_at_site e.txn e.origin (doubted_commit layout past site e h).commit.runs c) (λ q. of_item_dropped site (state c past) _ _ (s c))
  of_items_step (Doubt site (pending.Release part epoch to vector)) h c = of_item_dropped site (state c past) _ _ (s c)
  of_items_step (Doubt site (pending.Grant part epoch vector)) h c = of_item_dropped site (state c past) _ _ (s c)
  of_items_step (Restart site vector found) h c = of_item_dropped site (state c past) _ _ (s c)
  of_items_step other h c = s c

pub of_items_past : (layout : Layout) (past : List Step) → LegalPast layout past → OfItems past
of_items_past layout [] h = λ c. tt
of_items_past layout (s ∷ past) h = of_items_step layout past (seated layout past h.0) (of_items_past layout past h.0) s h.1

-- ---- from the run to the attempt

pub runs_tells : (layout : Layout) (past : List Step) → LegalPast layout past → (i : ℕ) (t : TxnId) → runs i t past ≡ true
    → attempt t.session past ≡ record { txn = Some t; state = stands.Running i }
runs_tells layout past h i t r =
    let seat = seated layout past h i t r in
    let item : item_routing t.session past ≡ last_routing t.session past =
    subst (λ (x : AttemptState). OfItem x (last_routing t.session past) (item_routing t.session past)) seat.runs (of_items_past layout past h t.session) in
    let named : option_map (λ (r : Routing). r.txn) (item_routing t.session past) ≡ Some t =
    ap (λ (o : Option Routing). option_map (λ r. r.txn) o) (item ∙ seat.routed) ∙ ap (λ (x : TxnId). Some x) seat.same in
    ap₂ (λ (o : Option TxnId) (x : AttemptState). record { txn = o; state = x }) named seat.runs

-- ---- from the attempt to the run

record Undropped (site i : ℕ) (st : AttemptState) : Type 0 where
  before : st ≡ stands.Running i
  elsewhere : site ≢ i

undropped_running : (site i : ℕ) (st : AttemptState) → dropped_at site st ≡ stands.Running i → Undropped site i st
undropped_running site i (stands.Running k) h = by (k == site) refl h
  where
    by : (b : Bool) → (k == site) ≡ b → (if b then stands.Dropped else stands.Running k) ≡ stands.Running i → Undropped site i (stands.Running k)
    by true e g = absurd (cc (g))
    by false e g = (let same : k ≡ i = cc (g) in record { before = g; elsewhere = λ p. eqb-false k site e (same ∙ sym p) })
undropped_running site i other h = absurd (cc (h))

other_txn : (t txn : TxnId) → (txn.session == t.session) ≡ false → same_txn t txn ≡ false
other_txn t txn e = false_from_ne_true (same_txn t txn) (λ m. eqb-false txn.session t.session e (ap (λ (x : TxnId). x.session) (sym (txn_same t txn m))))

-- the state and the attempt after a step of a session, seen from another session
record Apart (b : Bool) (i : ℕ) (old : AttemptState) : Type 0 where
  test : b ≡ false
  before : old ≡ stands.Running i

apart : (b : Bool) (i : ℕ) (new old : AttemptState) → (new ≡ stands.Running i → ⊥) → unwrap_or (if b then Some new else None) old ≡ stands.Running i
    → Apart b i old
apart true i new old n h = absurd (n h)
apart false i new old n h = record { test = refl; before = h }

run_passes : (b here : Bool) (o : Option Bool) → b ≡ false → unwrap_or o false ≡ true → unwrap_or (option_or (if b then Some here else None) o) false ≡ true
run_passes true here o h r = absurd (false≢true (sym h))
run_passes false here o h r = r

run_starts : (b here : Bool) (o : Option Bool) → b ≡ true → here ≡ true → unwrap_or (option_or (if b then Some here else None) o) false ≡ true
run_starts true here o h r = r
run_starts false here o h r = absurd (false≢true h)

told_runs : (layout : Layout) (past : List Step) → LegalPast layout past → (i : ℕ) (t : TxnId) → state t.session past ≡ stands.Running i
    → option_map (λ (r : Routing). r.txn) (item_routing t.session past) ≡ Some t → runs i t past ≡ true
told_runs layout [] h i t e m = absurd (cc (e))
told_runs layout (Route txn want min site choice ∷ past) h i t e m = by (txn.session == t.session) (told_runs layout past h.0 i t) e m
  where
    route : Routing
    route = record { txn = txn; want = want; min = min; site = site; choice = choice }

    by : (b : Bool) → (state t.session past ≡ stands.Running i → option_map (λ (r : Routing). r.txn) (item_routing t.session past) ≡ Some t
        → runs i t past ≡ true)
        → unwrap_or (if b then Some (stands.Routed site choice) else None) (state t.session past) ≡ stands.Running i
        → option_map (λ (r : Routing). r.txn) (option_or (if b then Some route else None) (item_routing t.session past)) ≡ Some t → runs i t past ≡ true
    by true go f n = absurd (cc (f))
    by false go f n = go f n
told_runs layout (Reply session number o ∷ past) h i t e m = by (session == t.session) (told_runs layout past h.0 i t) e m
  where
    by : (b : Bool) → (state t.session past ≡ stands.Running i → option_map (λ (r : Routing). r.txn) (item_routing t.session past) ≡ Some t
        → runs i t past ≡ true)
        → unwrap_or (if b then Some stands.Unrouted else None) (state t.session past) ≡ stands.Running i
        → option_map (λ (r : Routing). r.txn) (last_routing t.session (if b then [] else Reply session number o ∷ since (is_reply t.session) past)) ≡ Some t
        → runs i t past ≡ true
    by true go f n = absurd (cc (f))
    by false go f n = go f n
told_runs layout (Begin site txn begin ∷ past) h i t e m = by (λ f. told_runs layout past h.0 i t f m) (txn.session == t.session) refl e
  where
    by : (state t.session past ≡ stands.Running i → runs i t past ≡ true) → (b : Bool) → (txn.session == t.session) ≡ b
        → unwrap_or (if b then Some (stands.Running site) else None) (state t.session past) ≡ stands.Running i
        → unwrap_or (option_or (if same_txn t txn then Some (site == i) else None) (latest (runs_after i t) past)) false ≡ true
    by go true q f =
        let d = (legal_begin layout past site txn begin h.1).routed.stands in
        let here : site ≡ i = cc (f) in
        let same : txn.session ≡ t.session = eqb-true txn.session t.session q in
        let item : item_routing t.session past ≡ Some d.route =
        stood layout past (seated layout past h.0) (of_items_past layout past h.0) txn d t.session q ∙ ap (λ (k : ℕ). last_routing k past) (sym same)
        ∙ d.last in
        let named : Some d.route.txn ≡ Some t = ap (λ (o : Option Routing). option_map (λ (r : Routing). r.txn) o) (sym item) ∙ m in
        let own : t ≡ txn = sym (let x : d.route.txn ≡ t = cc (named) in d.same ∙ x) in
        run_starts (same_txn t txn) (site == i) _ (ap (λ (x : TxnId). same_txn t x) (sym own) ∙ txn_own t) (eq-eqb site i here)
    by go false q f = run_passes (same_txn t txn) (site == i) _ (other_txn t txn q) (go f)
told_runs layout (Moved site txn ∷ past) h i t e m = (let q = apart (txn.session == t.session) i stands.Moved _ (λ x. absurd (cc (x))) e in
    told_runs layout past h.0 i t q.before m)
told_runs layout (Commit d ∷ past) h i t e m =
    let q = apart (d.txn.session == t.session) i (stands.Committed d.origin d.seq) _ (λ x. absurd (cc (x))) e in
    run_passes (same_txn t d.txn) false _ (other_txn t d.txn q.test) (told_runs layout past h.0 i t q.before m)
told_runs layout (End site txn ops reads ∷ past) h i t e m =
    let q = apart (txn.session == t.session) i (stands.Ended site) _ (λ x. absurd (cc (x))) e in
    run_passes (same_txn t txn) false _ (other_txn t txn q.test) (told_runs layout past h.0 i t q.before m)
told_runs layout (Fail site txn cause ∷ past) h i t e m =
    let q = apart (txn.session == t.session) i (stands.Failed cause) _ (λ x. absurd (cc (x))) e in
    run_passes (same_txn t txn) false _ (other_txn t txn q.test) (told_runs layout past h.0 i t q.before m)
told_runs layout (Doubt site (pending.Commit d) ∷ past) h i t e m =
    let q = apart (d.txn.session == t.session) i (stands.Doubted site) _ (λ x. absurd (cc (x))) e in
    let u = undropped_running site i (state t.session past) q.before in
    run_passes (site == i) false _ (ne_eqb site i u.elsewhere) (told_runs layout past h.0 i t u.before m)
told_runs layout (Doubt site (pending.Release part epoch to vector) ∷ past) h i t e m =
    let u = undropped_running site i (state t.session past) e in run_passes (site == i) false _ (ne_eqb site i u.elsewhere)
    (told_runs layout past h.0 i t u.before m)
told_runs layout (Doubt site (pending.Grant part epoch vector) ∷ past) h i t e m =
    let u = undropped_running site i (state t.session past) e in run_passes (site == i) false _ (ne_eqb site i u.elsewhere)
    (told_runs layout past h.0 i t u.before m)
told_runs layout (Restart site vector found ∷ past) h i t e m =
    let u = undropped_running site i (state t.session past) e in run_passes (site == i) false _ (ne_eqb site i u.elsewhere)
    (told_runs layout past h.0 i t u.before m)
told_runs layout (other ∷ past) h i t e m = told_runs layout past h.0 i t e m

pub tells_runs : (layout : Layout) (past : List Step) → LegalPast layout past → (i : ℕ) (t : TxnId)
    → attempt t.session past ≡ record { txn = Some t; state = stands.Running i } → runs i t past ≡ true
tells_runs layout past h i t e = told_runs layout past h i t (ap (λ (a : Attempt). a.state) e) (ap (λ (a : Attempt). a.txn) e)
