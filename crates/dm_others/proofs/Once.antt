-- An attempt is routed once and begins once.
use Rattle.std.proofs.Common.{ℕ, suc, ◌+◌, ◌≤◌, ◌≡◌, Bool, true, false, ◌==◌, cond, List, [], ◌∷◌, Option, Some, None, refl, sym, ap, ◌∙◌}
use Rattle.std.proofs.Common.{subst, arith, inl, inr}
use Rattle.std.proofs.lemmas.Bool.{eq-eqb, false≢true}
use Rattle.std.specs.List.{list_any, cons_option}
use Rattle.std.specs.Option.{option_or}
use Rattle.std.specs.Prelude.{unwrap_or, option_map, is_some, filter_map, ◌||◌}
use Rattle.dm_chronicle.specs.Rule.{In}
use Rattle.dm_event.specs.Layout.{Layout}
use Rattle.dm_event.specs.Txns.{same_txn}
use Rattle.dm_event.specs.declared.step.Choice.{Choice}
use Rattle.dm_event.specs.declared.step.Said.{Said}
use Rattle.dm_event.specs.declared.step.Step.{Step}
use Rattle.dm_event.specs.declared.step.Step.TheVariants.{Route, Reply, Begin}
use Rattle.dm_event.specs.declared.step.TxnId.{TxnId}
use Rattle.dm_event.specs.declared.step.Want.{Want}
use Rattle.dm_event.specs.declared.step.Want.TheVariants.{Txn}
use Rattle.dm_locks.specs.declared.claim.Claim.{Claim}
use Rattle.dm_model.proofs.LegalSteps.{legal_route, legal_begin}
use Rattle.dm_model.proofs.SameValues.{txn_same, txn_own}
use Rattle.dm_model.proofs.StandingRoutes.{routed_stands}
use Rattle.dm_model.specs.Allowed.{Allowed}
use Rattle.dm_model.specs.Attempts.{Routing, declared, wanted_keys, routing, routing_of, routed, replies, routes, is_reply, is_route}
use Rattle.dm_model.specs.Legal.{LegalPast}
use Rattle.dm_model.specs.Runs.{begin_vector, begun_at}
use Rattle.dm_model.specs.Words.{latest, since, count_of}
use Rattle.dm_others.specs.Locking.{claimed, IsSent}
use Rattle.dm_steps.proofs.Fresh.{has_begun, turns, fresh}

-- ---- Routes

-- no Route so far has a later number, or for the current item a later attempt
abbrev RoutesRise : List Step → Type 0
RoutesRise past = (t : TxnId) → is_some (routing t past) ≡ true
    → (t.number ≤ replies t.session past + 1) × (t.number ≡ replies t.session past + 1 → t.attempt ≤ routes t.session past)

more : (b : Bool) (n : ℕ) → n ≤ cond b (suc n) n
more true n = omega arith
more false n = omega arith

rises_route : (past : List Step) (txn : TxnId) (want : Want) (min : List ℕ) (site : ℕ) (choice : Choice) → txn.number ≡ replies txn.session past + 1
    → txn.attempt ≡ routes txn.session past + 1 → RoutesRise past → RoutesRise (Route txn want min site choice ∷ past)
rises_route past txn want min site choice n m r t h = by (same_txn t txn) refl h
  where
    Low : TxnId → Type 0
    Low v = (v.number ≤ replies v.session past + 1)
        × (v.number ≡ replies v.session past + 1 → v.attempt ≤ cond (txn.session == v.session) (suc (routes v.session past)) (routes v.session past))

    own : Low txn
    own = (
      omega (arith, n),
      λ q. subst (λ (b : Bool). txn.attempt ≤ cond b (suc (routes txn.session past)) (routes txn.session past)) (sym (eq-eqb txn.session txn.session refl))
          (omega (arith, m)),
    )

    by : (s : Bool) → same_txn t txn ≡ s
        → is_some (option_or (cond s (Some (record { txn = txn; want = want; min = min; site = site; choice = choice })) None) (routing t past)) ≡ true → Low t
    by true e g = subst Low (sym (txn_same t txn e)) own
    by false e g = (let b = r t g in (b.0, λ q. (let le = b.1 q in let k = more (txn.session == t.session) (routes t.session past) in omega (arith, le, k))))

rises_reply : (past : List Step) (session number : ℕ) (said : Said) → RoutesRise past → RoutesRise (Reply session number said ∷ past)
rises_reply past session number said r t h = by (session == t.session)
  where
    by : (s : Bool) → (t.number ≤ cond s (suc (replies t.session past)) (replies t.session past) + 1)
        × (t.number ≡ cond s (suc (replies t.session past)) (replies t.session past) + 1
        → t.attempt ≤ count_of (is_route t.session) (cond s [] (Reply session number said ∷ since (is_reply t.session) past)))
    by true = (let b = (r t h).0 in (omega (arith, b), λ q. absurd (omega (arith, b, q))))
    by false = r t h

rises_step : (layout : Layout) (past : List Step) (x : Step) → Allowed layout past x → RoutesRise past → RoutesRise (x ∷ past)
rises_step layout past (Route txn want min site choice) a r =
    (let legal = legal_route layout past txn want min site choice a in rises_route past txn want min site choice legal.number legal.attempt r)
rises_step layout past (Reply session number said) a r = rises_reply past session number said r
rises_step layout past other a r = r

rises_past : (layout : Layout) (past : List Step) → LegalPast layout past → RoutesRise past
rises_past layout [] l = λ t h. absurd (false≢true h)
rises_past layout (x ∷ past) l = rises_step layout past x l.1 (rises_past layout past l.0)

-- the attempt of a Route has none so far
pub fresh_route : (layout : Layout) (past : List Step) (txn : TxnId) (want : Want) (min : List ℕ) (site : ℕ) (choice : Choice) → LegalPast layout past
    → Allowed layout past (Route txn want min site choice) → is_some (routing txn past) ≡ true → ⊥
fresh_route layout past txn want min site choice l a h =
    let legal = legal_route layout past txn want min site choice a in
    let le = (rises_past layout past l txn h).1 legal.number in
    let m = legal.attempt in
    omega (arith, le, m)

there_is_none : {X : Type 0} (o : Option X) → (is_some o ≡ true → ⊥) → o ≡ None
there_is_none None h = refl
there_is_none (Some x) h = absurd (h refl)

pub first_route : (layout : Layout) (past : List Step) (txn : TxnId) (want : Want) (min : List ℕ) (site : ℕ) (choice : Choice)
    → LegalPast layout (Route txn want min site choice ∷ past) → routing txn past ≡ None
first_route layout past txn want min site choice l = there_is_none (routing txn past) (fresh_route layout past txn want min site choice l.0 l.1)

-- the attempt's Route stays its Route
pub route_stays : (layout : Layout) (past : List Step) (x : Step) (t : TxnId) (r : Routing) → LegalPast layout (x ∷ past) → routing t past ≡ Some r
    → routing t (x ∷ past) ≡ Some r
route_stays layout past (Route txn want min site choice) t r l h = by (same_txn t txn) refl
  where
    by : (s : Bool) → same_txn t txn ≡ s
        → option_or (cond s (Some (record { txn = txn; want = want; min = min; site = site; choice = choice })) None) (routing t past) ≡ Some r
    by false e = h
    by true e = absurd (fresh_route layout past txn want min site choice l.0 l.1
        (ap (λ (v : TxnId). is_some (routing v past)) (sym (txn_same t txn e)) ∙ ap (λ (o : Option Routing). is_some o) h))
route_stays layout past other t r l h = h

-- each Route in the list is that of its attempt
pub sent_routing : (layout : Layout) (past : List Step) (t : TxnId) (want : Want) (min : List ℕ) (site : ℕ) (choice : Choice) → LegalPast layout past
    → In (Route t want min site choice) past → routing t past ≡ Some (record { txn = t; want = want; min = min; site = site; choice = choice })
sent_routing layout [] t want min site choice l h = absurd h
sent_routing layout (x ∷ past) t want min site choice l (inl e) =
    subst (λ (s : Step). routing t (s ∷ past) ≡ Some new) (sym e) (ap (λ (b : Bool). option_or (cond b (Some new) None) (routing t past)) (txn_own t))
  where
    new : Routing
    new = record { txn = t; want = want; min = min; site = site; choice = choice }
sent_routing layout (x ∷ past) t want min site choice l (inr h) =
    route_stays layout past x t _ l (sent_routing layout past t want min site choice l.0 h)

-- so who was sent claims what it was sent with
pub sent_claim : (layout : Layout) (past : List Step) (site : ℕ) (claim : Claim) → LegalPast layout past → IsSent site past claim
    → claimed past claim.txn ≡ claim
sent_claim layout past site claim l sent =
    let route = sent_routing layout past claim.txn (Txn claim.keys) sent.0 site sent.1 l sent.2 in
    let keys : declared claim.txn past ≡ claim.keys = ap (λ (o : Option Routing). unwrap_or (option_map (λ r. wanted_keys r.want) o) []) route in
    λ j. record { txn = claim.txn; keys = keys j }

-- ---- Begins

-- where the session's last Route is the attempt's, the attempt has one
routed_has : (p q : TxnId → Bool) (past : List Step) (r : Routing) → latest (routing_of p) past ≡ Some r → q r.txn ≡ true
    → is_some (latest (routing_of q) past) ≡ true
routed_has p q [] r e h = absurd (cc (e))
routed_has p q (Route txn want min site choice ∷ past) r e h = by (p txn) (q txn) refl e (λ f. routed_has p q past r f h)
  where
    here : Routing
    here = record { txn = txn; want = want; min = min; site = site; choice = choice }

    some_in : {A : Type 0} {u v : A} → Some u ≡ Some v → u ≡ v
    some_in z = cc (z)

    by : (x y : Bool) → q txn ≡ y → option_or (cond x (Some here) None) (latest (routing_of p) past) ≡ Some r
        → (latest (routing_of p) past ≡ Some r → is_some (latest (routing_of q) past) ≡ true)
        → is_some (option_or (cond y (Some here) None) (latest (routing_of q) past)) ≡ true
    by x true f g rest = refl
    by false false f g rest = rest g
    by true false f g rest = absurd (false≢true (sym f ∙ (ap (λ (z : Routing). q z.txn) (some_in g) ∙ h)))
routed_has p q (other ∷ past) r e h = routed_has p q past r e h

-- an attempt that began has a Route
begun_routing : (layout : Layout) (past : List Step) → LegalPast layout past → (t : TxnId) → is_some (begin_vector t past) ≡ true
    → is_some (routing t past) ≡ true
begun_routing layout [] l t h = absurd (false≢true h)
begun_routing layout (Route txn want min site choice ∷ past) l t h = by (same_txn t txn) (begun_routing layout past l.0 t h)
  where
    by : (s : Bool) → is_some (routing t past) ≡ true
        → is_some (option_or (cond s (Some (record { txn = txn; want = want; min = min; site = site; choice = choice })) None) (routing t past)) ≡ true
    by true q = refl
    by false q = q
begun_routing layout (Begin site txn begin ∷ past) l t h = by (same_txn t txn) refl h (begun_routing layout past l.0 t)
  where
    by : (s : Bool) → same_txn t txn ≡ s → is_some (option_or (cond s (Some begin) None) (begin_vector t past)) ≡ true
        → (is_some (begin_vector t past) ≡ true → is_some (routing t past) ≡ true) → is_some (routing t past) ≡ true
    by true e q rest =
        let r = (legal_begin layout past site txn begin l.1).routed.stands in
        let same = txn_same t txn e ∙ r.same in
        routed_has (λ v. v.session == txn.session) (same_txn t) past r.route r.last (subst (λ (v : TxnId). same_txn t v ≡ true) same (txn_own t))
    by false e q rest = rest q
begun_routing layout (other ∷ past) l t h = begun_routing layout past l.0 t h

-- an attempt that began did so somewhere
begun_somewhere : (t : TxnId) (past : List Step) → is_some (begin_vector t past) ≡ true → (i : ℕ) × (has_begun i t past ≡ true)
begun_somewhere t [] h = absurd (false≢true h)
begun_somewhere t (Begin site txn begin ∷ past) h = by (same_txn t txn) refl h (begun_somewhere t past)
  where
    here : same_txn t txn ≡ true → list_any (same_txn t) (cons_option (cond (site == site) (Some txn) None) (filter_map (begun_at site) past)) ≡ true
    here e =
        ap (λ (b : Bool). list_any (same_txn t) (cons_option (cond b (Some txn) None) (filter_map (begun_at site) past))) (eq-eqb site site refl)
        ∙ ap (λ (b : Bool). b || list_any (same_txn t) (filter_map (begun_at site) past)) e

    there : (i : ℕ) (b : Bool) → has_begun i t past ≡ true → list_any (same_txn t) (cons_option (cond b (Some txn) None) (filter_map (begun_at i) past)) ≡ true
    there i false q = q
    there i true q = by_test (same_txn t txn)
      where
        by_test : (c : Bool) → (c || has_begun i t past) ≡ true
        by_test true = refl
        by_test false = q

    by : (s : Bool) → same_txn t txn ≡ s → is_some (option_or (cond s (Some begin) None) (begin_vector t past)) ≡ true
        → (is_some (begin_vector t past) ≡ true → (i : ℕ) × (has_begun i t past ≡ true)) → (i : ℕ) × (has_begun i t (Begin site txn begin ∷ past) ≡ true)
    by true e q rest = (site, here e)
    by false e q rest = (let r = rest q in (r.0, there r.0 (site == r.0) r.1))
begun_somewhere t (other ∷ past) h = begun_somewhere t past h

-- an attempt that began isn't routed any more
pub begun_unrouted : (layout : Layout) (past : List Step) → LegalPast layout past → (t : TxnId) → is_some (begin_vector t past) ≡ true
    → routed t past ≡ None
begun_unrouted layout past l t h = there_is_none (routed t past)
    (λ p.
    let r = routed_stands past t p in
    let turn = turns layout past l t.session in
    let now = turn.current r.state r.route r.last in
    let begun = begun_somewhere t past h in
    let number : t.number ≡ suc (replies t.session past) = ap (λ (x : TxnId). x.number) r.same ∙ now.0 in
    let attempt : t.attempt ≡ routes t.session past = ap (λ (x : TxnId). x.attempt) r.same ∙ now.1 in
    elim (turn.routed r.state begun.0 t refl begun.1) [ inl q ↦ omega (arith, q, number) | inr q ↦ omega (arith, q.1, attempt) ])

pub began_past : (layout : Layout) (past : List Step) → LegalPast layout past → (t : TxnId) → is_some (begin_vector t past) ≡ true
    → (is_some (routing t past) ≡ true) × (is_some (routed t past) ≡ false)
began_past layout past l t h = (begun_routing layout past l t h, ap (λ (o : Option Routing). is_some o) (begun_unrouted layout past l t h))

-- an attempt that is routed has not begun
pub routed_unbegun : (layout : Layout) (past : List Step) (txn : TxnId) (want : Want) (min : List ℕ) (site : ℕ) (choice : Choice)
    → LegalPast layout (Route txn want min site choice ∷ past) → begin_vector txn past ≡ None
routed_unbegun layout past txn want min site choice l =
    there_is_none (begin_vector txn past) (λ p. fresh_route layout past txn want min site choice l.0 l.1 (begun_routing layout past l.0 txn p))

-- who may begin has not begun
pub first_begin : (layout : Layout) (past : List Step) (site : ℕ) (txn : TxnId) (begin : List ℕ) → LegalPast layout (Begin site txn begin ∷ past)
    → begin_vector txn past ≡ None
first_begin layout past site txn begin l = there_is_none (begin_vector txn past)
    (λ p. (let b = begun_somewhere txn past p in false≢true (sym (fresh layout past l.0 site txn begin l.1 b.0) ∙ b.1)))

pub not_begun : (layout : Layout) (past : List Step) (site : ℕ) (txn : TxnId) (begin : List ℕ) → LegalPast layout past
    → Allowed layout past (Begin site txn begin) → is_some (begin_vector txn past) ≡ false
not_begun layout past site txn begin l a = ap (λ (o : Option (List ℕ)). is_some o) (first_begin layout past site txn begin (l, a))

-- an attempt begins once
pub begin_stays : (layout : Layout) (past : List Step) (x : Step) (t : TxnId) (b : List ℕ) → LegalPast layout (x ∷ past) → begin_vector t past ≡ Some b
    → begin_vector t (x ∷ past) ≡ Some b
begin_stays layout past (Begin site txn begin) t b l h = by (same_txn t txn) refl
  where
    by : (s : Bool) → same_txn t txn ≡ s → option_or (cond s (Some begin) None) (begin_vector t past) ≡ Some b
    by false e = h
    by true e = absurd (false≢true
        (sym (not_begun layout past site txn begin l.0 l.1) ∙ ap (λ (v : TxnId). is_some (begin_vector v past)) (sym (txn_same t txn e))
        ∙ ap (λ (o : Option (List ℕ)). is_some o) h))
begin_stays layout past other t b l h = h
