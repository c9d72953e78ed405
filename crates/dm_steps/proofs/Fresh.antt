-- An attempt that may begin has not begun before.
use Rattle.std.proofs.Common.{ℕ, suc, ◌<◌, ◌≤◌, ◌≡◌, ◌≢◌, ◌==◌, Bool, true, false, if◌then◌else◌, List, [], ◌∷◌, Some, None, refl, sym, ap, ◌∙◌, subst, arith}
use Rattle.std.proofs.Common.{inl, inr, ◌⊎◌, unwrap_or}
use Rattle.std.proofs.lemmas.Bool.{eqb-true, eqb-false, false≢true, or_cases}
use Rattle.std.specs.List.{list_any, cons_option}
use Rattle.std.specs.Prelude.{filter_map}
use Rattle.dm_event.specs.Layout.{Layout}
use Rattle.dm_event.specs.declared.attempt.AttemptState.{AttemptState}
use Rattle.dm_event.specs.declared.attempt.AttemptState.TheVariants as stands
use Rattle.dm_event.specs.declared.step.Choice.{Choice}
use Rattle.dm_event.specs.declared.step.Pending.TheVariants as pending
use Rattle.dm_event.specs.declared.step.Said.{Said}
use Rattle.dm_event.specs.declared.step.Want.{Want}
use Rattle.dm_event.specs.declared.step.Step.{Step}
use Rattle.dm_event.specs.declared.step.Step.TheVariants.{Route, Reply, Begin, Moved, Commit, End, Fail, Doubt, Restart}
use Rattle.dm_event.specs.declared.step.TxnId.{TxnId}
use Rattle.dm_model.proofs.LegalSteps.{legal_route, legal_begin}
use Rattle.dm_model.proofs.SameValues.{txn_same}
use Rattle.dm_model.proofs.StandingRoutes.{Stands}
use Rattle.dm_model.specs.Allowed.{Allowed}
use Rattle.dm_model.specs.Attempts.{Routing, replies, is_route, routes, last_routing, state_by, dropped_at, dropped_by, state, is_routed}
use Rattle.dm_model.specs.Legal.{LegalPast}
use Rattle.dm_model.specs.Runs.{begun_at}
use Rattle.dm_event.specs.Txns.{same_txn}
use Rattle.dm_steps.proofs.Sessions.{routes_next}

-- the attempt began at the site
abbrev pub has_begun : ℕ → TxnId → List Step → Bool
has_begun i t past = list_any (same_txn t) (filter_map (begun_at i) past)

-- the item is answered
abbrev pub Answered : List Step → ℕ → TxnId → Type 0
Answered past c t = t.number ≤ replies c past

-- one of the current item's attempts, with a number that passes
abbrev pub OfItem : List Step → ℕ → TxnId → (ℕ → Type 0) → Type 0
OfItem past c t passes = (t.number ≡ suc (replies c past)) × passes t.attempt

-- while the session stands routed its last Route is the current item's last attempt, and each attempt that began is earlier;
-- and at no time has a later one begun
pub record Turn (past : List Step) (c : ℕ) : Type 0 where
  pub current : is_routed (state c past) ≡ true → (r : Routing) → last_routing c past ≡ Some r → OfItem past c r.txn (λ n. n ≡ routes c past)
  pub begun : (i : ℕ) (t : TxnId) → t.session ≡ c → has_begun i t past ≡ true → Answered past c t ⊎ OfItem past c t (λ n. n ≤ routes c past)
  pub routed : is_routed (state c past) ≡ true → (i : ℕ) (t : TxnId) → t.session ≡ c → has_begun i t past ≡ true
      → Answered past c t ⊎ OfItem past c t (λ n. n < routes c past)

not_dropped : (site : ℕ) (st : AttemptState) → is_routed (dropped_at site st) ≡ true → is_routed st ≡ true
not_dropped site (stands.Running k) h = by (k == site) h
  where
    by : (b : Bool) → is_routed (if b then stands.Dropped else stands.Running k) ≡ true → false ≡ true
    by true g = g
    by false g = g
not_dropped site other h = h

kept_or : (b : Bool) (new old : AttemptState) → is_routed new ≡ false → is_routed (unwrap_or (if b then Some new else None) old) ≡ true → is_routed old ≡ true
kept_or true new old n h = absurd (false≢true (sym n ∙ h))
kept_or false new old n h = h

-- what isn't a Route routes nothing
stays_routed : (c : ℕ) (s : Step) (st : AttemptState) → is_route c s ≡ false → is_routed (unwrap_or (state_by c s) (dropped_by s st)) ≡ true → is_routed st
    ≡ true
stays_routed c (Route txn want min site choice) st n h = by (txn.session == c) n h
  where
    by : (b : Bool) → b ≡ false → is_routed (unwrap_or (if b then Some (stands.Routed site choice) else None) st) ≡ true → is_routed st ≡ true
    by true m g = absurd (false≢true (sym m))
    by false m g = g
stays_routed c (Reply session number said) st n h = kept_or (session == c) stands.Unrouted st refl h
stays_routed c (Moved site txn) st n h = kept_or (txn.session == c) stands.Moved st refl h
stays_routed c (Begin site txn begin) st n h = kept_or (txn.session == c) (stands.Running site) st refl h
stays_routed c (Commit e) st n h = kept_or (e.txn.session == c) (stands.Committed e.origin e.seq) st refl h
stays_routed c (End site txn ops reads) st n h = kept_or (txn.session == c) (stands.Ended site) st refl h
stays_routed c (Fail site txn cause) st n h = kept_or (txn.session == c) (stands.Failed cause) st refl h
stays_routed c (Doubt site (pending.Commit e)) st n h = not_dropped site st (kept_or (e.txn.session == c) (stands.Doubted site) (dropped_at site st) refl h)
stays_routed c (Doubt site (pending.Release part epoch to vector)) st n h = not_dropped site st h
stays_routed c (Doubt site (pending.Grant part epoch vector)) st n h = not_dropped site st h
stays_routed c (Restart site vector found) st n h = not_dropped site st h
stays_routed c other st n h = h

module _ (past : List Step) (c : ℕ) (turn : Turn past c) where
  -- a step by which the session's counts and its begun attempts stay
  stays : (s : Step) → is_route c s ≡ false → replies c (s ∷ past) ≡ replies c past → routes c (s ∷ past) ≡ routes c past → last_routing c (s ∷ past)
      ≡ last_routing c past
      → ((i : ℕ) → filter_map (begun_at i) (s ∷ past) ≡ filter_map (begun_at i) past) → Turn (s ∷ past) c
  stays s n r a l b = record {
    current = λ h x e. (let p = turn.current (stays_routed c s (state c past) n h) x (sym l ∙ e) in (p.0 ∙ ap suc (sym r), p.1 ∙ sym a));
    begun = λ i t e m. elim (turn.begun i t e (ap (λ (ts : List TxnId). list_any (same_txn t) ts) (sym (b i)) ∙ m)) [
      | inl p ↦ inl (omega (arith, p, r))
      | inr p ↦ inr (p.0 ∙ ap suc (sym r), omega (arith, p.1, a))
    ];
    routed = λ h i t e m. elim (turn.routed (stays_routed c s (state c past) n h) i t e (ap (λ (ts : List TxnId). list_any (same_txn t) ts) (sym (b i)) ∙ m)) [
      | inl p ↦ inl (omega (arith, p, r))
      | inr p ↦ inr (p.0 ∙ ap suc (sym r), omega (arith, p.1, a))
    ];
  }

  replied : (session number : ℕ) (said : Said) → Turn (Reply session number said ∷ past) c
  replied session number said = by (session == c) refl
    where
      by : (b : Bool) → (session == c) ≡ b → Turn (Reply session number said ∷ past) c
      by true e =
          let s = Reply session number said in
          let r : replies c (s ∷ past) ≡ suc (replies c past) = rw e refl in
          let n : is_routed (state c (s ∷ past)) ≡ false = rw e refl in
          record {
            current = λ h x f. absurd (false≢true (sym n ∙ h));
            begun = λ i t f m. inl (elim (turn.begun i t f m) [ inl p ↦ omega (arith, p, r) | inr p ↦ omega (arith, p.0, r) ]);
            routed = λ h i t f m. absurd (false≢true (sym n ∙ h));
          }
      by false e = stays (Reply session number said) refl (rw e refl) (routes_next c (Reply session number said) past ∙ rw e refl) refl (λ i. refl)

  route_next : (txn : TxnId) (want : Want) (min : List ℕ) (site : ℕ) (choice : Choice)
      → (txn.session ≡ c → (txn.number ≡ suc (replies c past)) × (txn.attempt ≡ suc (routes c past)))
      → Turn (Route txn want min site choice ∷ past) c
  route_next txn want min site choice f = by (txn.session == c) refl
    where
      s : Step
      s = Route txn want min site choice

      by : (b : Bool) → (txn.session == c) ≡ b → Turn (Route txn want min site choice ∷ past) c
      by true e =
          let a : routes c (Route txn want min site choice ∷ past) ≡ suc (routes c past) = rw e refl in
          let due = f (eqb-true txn.session c e) in
          let mine : Routing = record { txn = txn; want = want; min = min; site = site; choice = choice } in
          let l : last_routing c (Route txn want min site choice ∷ past) ≡ Some mine = rw e refl in
          record {
            current = λ h x g. (let same : mine ≡ x = cc (l, g) in (
              sym (ap (λ (y : Routing). y.txn.number) same)
                  ∙ due.0,
              sym (ap (λ (y : Routing). y.txn.attempt) same) ∙ due.1 ∙ sym a,
            ));
            begun = λ i t g m. elim (turn.begun i t g m) [ inl p ↦ inl p | inr p ↦ inr (p.0, omega (arith, p.1, a)) ];
            routed = λ h i t g m. elim (turn.begun i t g m) [ inl p ↦ inl p | inr p ↦ inr (p.0, omega (arith, p.1, a)) ];
          }
      by false e = stays (Route txn want min site choice) e refl (rw e refl) (rw e refl) (λ i. refl)

any_begun : (i : ℕ) (t : TxnId) (site : ℕ) (txn : TxnId) (ts : List TxnId) → list_any (same_txn t) (cons_option (if site == i then Some txn else None) ts)
    ≡ true
    → (t ≡ txn) ⊎ (list_any (same_txn t) ts ≡ true)
any_begun i t site txn ts h = by (site == i) h
  where
    by : (b : Bool) → list_any (same_txn t) (cons_option (if b then Some txn else None) ts) ≡ true → (t ≡ txn) ⊎ (list_any (same_txn t) ts ≡ true)
    by true g = elim (or_cases (same_txn t txn) (list_any (same_txn t) ts) g) [ inl p ↦ inl (txn_same t txn p) | inr p ↦ inr p ]
    by false g = inr g

-- the attempt that begins stands routed
begin_next : (past : List Step) (c site : ℕ) (txn : TxnId) (begin : List ℕ) → Turn past c → Stands past txn → Turn (Begin site txn begin ∷ past) c
begin_next past c site txn begin turn stand = by (txn.session == c) refl
  where
    other : txn.session ≢ c → (i : ℕ) (t : TxnId) → t.session ≡ c → has_begun i t (Begin site txn begin ∷ past) ≡ true → has_begun i t past ≡ true
    other n i t e m = elim (any_begun i t site txn (filter_map (begun_at i) past) m) [
      | inl p ↦ absurd
          (n (sym (ap (λ (x : TxnId). x.session) p) ∙ e))
      | inr p ↦ p
    ]

    by : (b : Bool) → (txn.session == c) ≡ b → Turn (Begin site txn begin ∷ past) c
    by true e =
        let own = eqb-true txn.session c e in
        let n : is_routed (state c (Begin site txn begin ∷ past)) ≡ false = rw e refl in
        let cur = turn.current (subst (λ (x : ℕ). is_routed (state x past) ≡ true) own stand.state) stand.route
        (subst (λ (x : ℕ). last_routing x past ≡ Some stand.route) own stand.last) in
        record {
          current = λ h x g. absurd (false≢true (sym n ∙ h));
          begun = λ i t g m. elim (any_begun i t site txn (filter_map (begun_at i) past) m) [
            | inl p ↦ (let q = p ∙ stand.same in inr (
              ap (λ (y : TxnId). y.number) q
                  ∙ cur.0,
              (let z : t.attempt ≡ routes c past = ap (λ (y : TxnId). y.attempt) q ∙ cur.1 in omega (arith, z)),
            ))
            | inr p ↦ turn.begun i t g p
          ];
          routed = λ h i t g m. absurd (false≢true (sym n ∙ h));
        }
    by false e =
        let n = eqb-false txn.session c e in
        record {
          current = λ h x g. turn.current (stays_routed c (Begin site txn begin) (state c past) refl h) x g;
          begun = λ i t g m. turn.begun i t g (other n i t g m);
          routed = λ h i t g m. turn.routed (stays_routed c (Begin site txn begin) (state c past) refl h) i t g (other n i t g m);
        }

turn_step : (layout : Layout) (past : List Step) (s : Step) → Allowed layout past s → (c : ℕ) → Turn past c → Turn (s ∷ past) c
turn_step layout past (Route txn want min site choice) h c turn =
    let l = legal_route layout past txn want min site choice h in
    route_next past c turn txn want min site choice
    (λ e. (
      (let x = l.number in let y = ap (λ (d : ℕ). replies d past) e in omega (arith, x, y)),
      (let x = l.attempt in let y = ap (λ (d : ℕ). routes d past) e in omega (arith, x, y)),
    ))
turn_step layout past (Reply session number said) h c turn = replied past c turn session number said
turn_step layout past (Begin site txn begin) h c turn = begin_next past c site txn begin turn (legal_begin layout past site txn begin h).routed.stands
turn_step layout past other h c turn = stays past c turn other refl refl refl refl (λ i. refl)

pub turns : (layout : Layout) (past : List Step) → LegalPast layout past → (c : ℕ) → Turn past c
turns layout [] h c = record { current = λ r x e. absurd (false≢true r); begun = λ i t e m. absurd (false≢true m); routed = λ r i t e m. absurd (false≢true m) }
turns layout (s ∷ past) h c = turn_step layout past s h.1 c (turns layout past h.0 c)

-- who may begin has not begun anywhere
pub fresh : (layout : Layout) (past : List Step) → LegalPast layout past → (site : ℕ) (txn : TxnId) (begin : List ℕ)
    → Allowed layout past (Begin site txn begin)
    → (i : ℕ) → has_begun i txn past ≡ false
fresh layout past h site txn begin allowed i = by (has_begun i txn past) refl
  where
    by : (b : Bool) → has_begun i txn past ≡ b → b ≡ false
    by false e = refl
    by true e =
        let stand = (legal_begin layout past site txn begin allowed).routed.stands in
        let turn = turns layout past h txn.session in
        let cur = turn.current stand.state stand.route stand.last in
        let num : txn.number ≡ suc (replies txn.session past) = ap (λ (x : TxnId). x.number) stand.same ∙ cur.0 in
        let att : txn.attempt ≡ routes txn.session past = ap (λ (x : TxnId). x.attempt) stand.same ∙ cur.1 in
        absurd (elim (turn.routed stand.state i txn refl e) [ inl p ↦ omega (arith, p, num) | inr p ↦ omega (arith, p.1, att) ])
