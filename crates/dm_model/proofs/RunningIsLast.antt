-- An attempt that runs is its session's last, and the session's state says so.
use Rattle.std.proofs.Common.{ℕ, ◌≡◌, ◌≢◌, Bool, true, false, ◌==◌, if◌then◌else◌, List, [], ◌∷◌, Some, None, refl, sym, ap, ◌∙◌, subst, inl, inr, unwrap_or}
use Rattle.std.proofs.Common.{◌&&◌}
use Rattle.std.proofs.lemmas.Bool.{cases_Bool, eqb-true, eqb-false, eq-eqb, ne_eqb, cond-false, false≢true, and_parts}
use Rattle.std.specs.Option.{option_map_or}
use Rattle.dm_event.specs.Txns.{same_txn}
use Rattle.dm_event.specs.Layout.{Layout}
use Rattle.dm_event.specs.declared.attempt.AttemptState.{AttemptState}
use Rattle.dm_event.specs.declared.attempt.AttemptState.TheVariants.{Unrouted, Routed, Running, Committed, Ended, Failed, Doubted}
use Rattle.dm_event.specs.declared.attempt.AttemptState.TheVariants as stands
use Rattle.dm_event.specs.declared.step.Cause.{Cause}
use Rattle.dm_event.specs.declared.step.Cause.TheVariants as cause
use Rattle.dm_event.specs.declared.step.Pending.TheVariants as pending
use Rattle.dm_event.specs.declared.step.Said.{Said}
use Rattle.dm_event.specs.declared.step.Said.TheVariants as said
use Rattle.dm_event.specs.declared.step.Step.{Step}
use Rattle.dm_event.specs.declared.step.Step.TheVariants.{Route, Reply, Begin, Moved, Commit, End, Fail, Doubt, Restart}
use Rattle.dm_event.specs.declared.step.TxnId.{TxnId}
use Rattle.dm_model.proofs.LegalSteps.{legal_route, legal_reply, legal_begin, legal_moved, legal_commit, legal_end, legal_fail, doubted_commit}
use Rattle.dm_model.proofs.SameValues.{txn_same, txn_own}
use Rattle.dm_model.proofs.StandingRoutes.{Stands}
use Rattle.dm_model.proofs.StepTests.{ran, passed, went_on}
use Rattle.dm_model.specs.Allowed.{Allowed}
use Rattle.dm_model.specs.Attempts.{Routing, state, dropped_at, last_routing, is_routed}
use Rattle.dm_model.specs.Legal.{LegalPast}
use Rattle.dm_model.specs.Outcomes.{may_say, is_committed, is_ended, is_doubted, wants_place, wants_restart, is_routed_for, may_refuse}
use Rattle.dm_model.specs.Rows.{may_route}
use Rattle.dm_model.specs.Runs.{runs}

-- the attempt is the session's last, and runs at the site
pub record Seat (past : List Step) (i : ℕ) (t : TxnId) : Type 0 where
  pub runs : state t.session past ≡ Running i
  pub last : Routing
  pub routed : last_routing t.session past ≡ Some last
  pub same : last.txn ≡ t

-- each attempt that runs is seated so
abbrev pub Seated : List Step → Type 0
Seated past = (i : ℕ) (t : TxnId) → runs i t past ≡ true → Seat past i t

pub record SameSeat (i k : ℕ) (t u : TxnId) : Type 0 where
  pub txn : t ≡ u
  pub site : i ≡ k

-- a session has one running attempt, at one site
pub one_seat : (past : List Step) (i k : ℕ) (t u : TxnId) → Seat past i t → Seat past k u → t.session ≡ u.session → SameSeat i k t u
one_seat past i k t u a b e =
    let r : last_routing t.session past ≡ last_routing u.session past = ap (λ (c : ℕ). last_routing c past) e in
    let same : a.last ≡ b.last = cc (a.routed, b.routed, r) in
    let st : state t.session past ≡ state u.session past = ap (λ (c : ℕ). state c past) e in
    record { txn = sym a.same ∙ ap (λ (x : Routing). x.txn) same ∙ b.same; site = cc (a.runs, b.runs, st) }

-- a seat stays, where the step is not of its session and leaves its site alone
pub stays : (past : List Step) (s : Step) (i : ℕ) (t : TxnId) → Seat past i t → state t.session (s ∷ past) ≡ Running i
    → last_routing t.session (s ∷ past) ≡ last_routing t.session past → Seat (s ∷ past) i t
stays past s i t a e r = record { runs = e; last = a.last; routed = r ∙ a.routed; same = a.same }

pub other_session : (b : Bool) (x : AttemptState) (st : AttemptState) → b ≡ false → unwrap_or (if b then Some x else None) st ≡ st
other_session true x st h = absurd (false≢true (sym h))
other_session false x st h = refl

pub own_session : (b : Bool) (x : AttemptState) (st : AttemptState) → b ≡ true → unwrap_or (if b then Some x else None) st ≡ x
own_session true x st h = refl
own_session false x st h = absurd (false≢true h)

undropped : (site i : ℕ) (st : AttemptState) → st ≡ Running i → site ≢ i → dropped_at site st ≡ Running i
undropped site i st e n = ap (λ (x : AttemptState). dropped_at site x) e ∙ cond-false (i == site) _ _ (ne_eqb i site (λ p. n (sym p)))

module _ (layout : Layout) (past : List Step) (s : Seated past) where
  -- a running session may not be routed, begun, sent back or answered
  pub not_routed : (i : ℕ) (t txn : TxnId) → runs i t past ≡ true → is_routed (state txn.session past) ≡ true → txn.session ≢ t.session
  not_routed i t txn r h e =
      let st : state txn.session past ≡ Running i = ap (λ (c : ℕ). state c past) e ∙ (s i t r).runs in
      false≢true (subst (λ (x : AttemptState). is_routed x ≡ true) st h)

  never_routed_for : (c i site : ℕ) (p : _) → state c past ≡ Running i → is_routed_for c site p past ≡ true → ⊥
  never_routed_for c i site p st h = false≢true
      (subst (λ (x : AttemptState). option_map_or (λ r. (r.site == site) && p r.want) (if is_routed x then last_routing c past else None) false ≡ true) st h)

  not_said : (c i : ℕ) (o : Said) → state c past ≡ Running i → may_say layout past c o ≡ true → ⊥
  not_said c i (said.Committed site seq) st h = false≢true (subst (λ (x : AttemptState). is_committed x site seq ≡ true) st h)
  not_said c i (said.Read site) st h = false≢true (subst (λ (x : AttemptState). is_ended x site ≡ true) st h)
  not_said c i (said.InDoubt site) st h = false≢true (subst (λ (x : AttemptState). is_doubted x site ≡ true) st h)
  not_said c i (said.Placed part site epoch) st h = never_routed_for c i site _ st (and_parts (is_routed_for c site (wants_place part) past) _ h).0
  not_said c i (said.Restarted site) st h = never_routed_for c i site _ st (and_parts (is_routed_for c site wants_restart past) _ h).0
  not_said c i (said.Refused why) st h = not_refused why (subst (λ (x : AttemptState). may_refuse x why ≡ true) st h)
    where
      not_refused : (w : Cause) → may_refuse (Running i) w ≡ true → ⊥
      not_refused (cause.Undeclared key) h = false≢true h
      not_refused (cause.Log site) h = false≢true h
      not_refused (cause.Damage site place read written) h = false≢true h
      not_refused cause.Memory h = false≢true h

  -- a step that ends the run of an attempt leaves the other seats
  other_ends : (k : ℕ) (txn : TxnId) (i : ℕ) (t : TxnId) → runs k txn past ≡ true → runs i t past ≡ true → same_txn t txn ≡ false
      → (txn.session == t.session) ≡ false
  other_ends k txn i t r h n = by_test (txn.session == t.session) refl
    where
      by_test : (b : Bool) → (txn.session == t.session) ≡ b → b ≡ false
      by_test false e = refl
      by_test true e = absurd (false≢true (sym n ∙ ap (λ (x : TxnId). same_txn t x)
          (one_seat past k i txn t (s k txn r) (s i t h) (eqb-true txn.session t.session e)).txn ∙ txn_own t))

  pub seats : (st : Step) → Allowed layout past st → Seated (st ∷ past)
  seats (Route txn want min site choice) h i t r =
      let legal = legal_route layout past txn want min site choice h in
      let a = s i t r in
      elim (cases_Bool (txn.session == t.session)) [
        | inl e ↦ absurd (false≢true (subst (λ (x : AttemptState). may_route x ≡ true)
            (ap (λ (c : ℕ). state c past) (eqb-true txn.session t.session e) ∙ a.runs) legal.further))
        | inr e ↦ stays past (Route txn want min site choice) i t a (other_session _ (Routed site choice) _ e ∙ a.runs)
            (passed (txn.session == t.session) _ _ e)
      ]
  seats (Reply session number o) h i t r =
      let legal = legal_reply layout past session number o h in
      let a = s i t r in
      elim (cases_Bool (session == t.session)) [
        | inl e ↦ absurd (not_said session i o (ap (λ (c : ℕ). state c past) (eqb-true session t.session e) ∙ a.runs) legal.says)
        | inr e ↦ stays past (Reply session number o) i t a (other_session _ Unrouted _ e ∙ a.runs) refl
      ]
  seats (Begin site txn begin) h i t r =
      let q = (legal_begin layout past site txn begin h).routed.stands in
      elim (ran (same_txn t txn) (site == i) _ r) [
        | inl p ↦ starts (txn_same t txn p.test) (eqb-true site i p.now) q
        | inr p ↦ (let a = s i t p.before in
            stays past (Begin site txn begin) i t a (other_session _ (Running site) _ (ne_eqb txn.session t.session (not_routed i t txn p.before q.state)) ∙
            a.runs) refl)
      ]
    where
      starts : t ≡ txn → site ≡ i → Stands past txn → Seat (Begin site txn begin ∷ past) i t
      starts e f g = record {
        runs = own_session (txn.session == t.session) (Running site) _ (eq-eqb txn.session t.session (ap (λ (y : TxnId). y.session) (sym e)))
            ∙ ap (λ (y : ℕ). Running y) f;
        last = g.route;
        routed = ap (λ (y : TxnId). last_routing y.session past) e ∙ g.last;
        same = sym g.same ∙ sym e;
      }
  seats (Moved site txn) h i t r =
      let q = (legal_moved layout past site txn h).routed.stands in
      let a = s i t r in
      stays past (Moved site txn) i t a (other_session _ stands.Moved _ (ne_eqb txn.session t.session (not_routed i t txn r q.state)) ∙ a.runs) refl
  seats (Commit e) h i t r =
      let legal = legal_commit layout past e h in
      let x = went_on (same_txn t e.txn) _ r in
      let a = s i t x.before in
      stays past (Commit e) i t a (other_session _ (Committed e.origin e.seq) _ (other_ends e.origin e.txn i t legal.runs x.before x.test) ∙ a.runs) refl
  seats (End site txn ops reads) h i t r =
      let legal = legal_end layout past site txn ops reads h in
      let x = went_on (same_txn t txn) _ r in
      let a = s i t x.before in
      stays past (End site txn ops reads) i t a (other_session _ (Ended site) _ (other_ends site txn i t legal.runs x.before x.test) ∙ a.runs) refl
  seats (Fail site txn cause) h i t r =
      let x = went_on (same_txn t txn) _ r in
      let a = s i t x.before in
      let other : (txn.session == t.session) ≡ false = elim (legal_fail layout past site txn cause h) [
        | inl q ↦ ne_eqb txn.session t.session (not_routed i t txn x.before q.state)
        | inr q ↦ other_ends site txn i t q x.before x.test
      ] in
      stays past (Fail site txn cause) i t a (other_session _ (Failed cause) _ other ∙ a.runs) refl
  seats (Doubt site (pending.Commit e)) h i t r =
      let legal = doubted_commit layout past site e h in
      let x = went_on (site == i) _ r in
      let n = eqb-false site i x.test in
      let a = s i t x.before in
      let other : (e.txn.session == t.session) ≡ false = elim (cases_Bool (e.txn.session == t.session)) [
        | inl q ↦ absurd (n (sym legal.own ∙
            (one_seat past e.origin i e.txn t (s e.origin e.txn legal.commit.runs) a (eqb-true e.txn.session t.session q)).site))
        | inr q ↦ q
      ] in
      stays past (Doubt site (pending.Commit e)) i t a (other_session _ (Doubted site) _ other ∙ undropped site i _ a.runs n) refl
  seats (Doubt site (pending.Release part epoch to vector)) h i t r =
      let x = went_on (site == i) _ r in let a = s i t x.before in
      stays past (Doubt site (pending.Release part epoch to vector)) i t a (undropped site i _ a.runs (eqb-false site i x.test)) refl
  seats (Doubt site (pending.Grant part epoch vector)) h i t r =
      let x = went_on (site == i) _ r in let a = s i t x.before in
      stays past (Doubt site (pending.Grant part epoch vector)) i t a (undropped site i _ a.runs (eqb-false site i x.test)) refl
  seats (Restart site vector found) h i t r =
      let x = went_on (site == i) _ r in let a = s i t x.before in
      stays past (Restart site vector found) i t a (undropped site i _ a.runs (eqb-false site i x.test)) refl
  seats other h i t r = (let a = s i t r in stays past other i t a a.runs refl)

pub seated : (layout : Layout) (past : List Step) → LegalPast layout past → Seated past
seated layout [] h = λ i t r. absurd (false≢true r)
seated layout (s ∷ past) h = seats layout past (seated layout past h.0) s h.1
