-- What a session's own steps tell of its attempt, and of a site's locks.
use Rattle.std.proofs.Common.{ℕ, ◌≡◌, ◌≤◌, Bool, true, false, ◌==◌, nat_le, cond, List, [], ◌∷◌, ◌++◌, Option, Some, None, refl, sym, ap, ◌∙◌, subst, inl, inr}
use Rattle.std.proofs.Common.{map, filter}
use Rattle.std.proofs.lemmas.Bool.{and_parts, cases_Bool, eqb-true, false≢true, leb-true}
use Rattle.std.specs.List.{AllByRecursion as Each, list_all}
use Rattle.std.specs.Option.{option_or}
use Rattle.std.specs.Prelude.{reverse, filter_map, is_some, option_map, IsFalse, IsSome, IfSome}
use Rattle.dm_chronicle.specs.Rule.{In}
use Rattle.dm_event.specs.Layout.{Layout, is_key, is_session}
use Rattle.dm_event.specs.Vectors.{AtMost}
use Rattle.dm_event.specs.declared.actor.Actor.TheVariants.{Session}
use Rattle.dm_event.specs.declared.attempt.AttemptState.TheVariants as stands
use Rattle.dm_event.specs.declared.limits.TheConstants.{MAX_SESSIONS}
use Rattle.dm_event.specs.declared.step.Step.{Step}
use Rattle.dm_event.specs.declared.step.Step.TheVariants.{Begin, Route}
use Rattle.dm_event.specs.declared.step.TxnId.{TxnId}
use Rattle.dm_event.specs.declared.step.Want.{Want}
use Rattle.dm_event.specs.declared.step.Want.TheVariants as want
use Rattle.dm_locks.proofs.Counts.{count_none}
use Rattle.dm_locks.proofs.Line as line
use Rattle.dm_locks.specs.Claims.{claim_of, is_of_session}
use Rattle.dm_locks.specs.Line.{IsServed, IsHeldUp}
use Rattle.dm_locks.specs.Locks.{Locks}
use Rattle.dm_locks.specs.declared.claim.Claim.{Claim}
use Rattle.dm_locks.specs.declared.table.LockAnswer.TheVariants.{Got, Waits}
use Rattle.dm_model.proofs.ListFacts.{each_map}
use Rattle.dm_model.proofs.RunningIsLast.{seated}
use Rattle.dm_model.proofs.StandingRoutes.{routed_stands}
use Rattle.dm_model.specs.Allowed.{Allowed, common_key, elsewhere, holder_among}
use Rattle.dm_model.specs.Attempts.{Routing, is_routed, routed, state}
use Rattle.dm_model.specs.Doubts.{is_down}
use Rattle.dm_model.specs.Legal.{Legal, LegalPast}
use Rattle.dm_model.specs.Progress.{site_vector}
use Rattle.dm_model.specs.Runs.{begun_at, running, runs}
use Rattle.dm_model.specs.Shape.{is_ascending, is_txn, is_want}
use Rattle.dm_model.specs.Words.{count_of}
use Rattle.dm_next.proofs.Routed.{may_begin, routed_fits, routed_sent, shaped_in}
use Rattle.dm_next.specs.Routed.{IsRouted}
use Rattle.dm_others.proofs.Once.{sent_claim}
use Rattle.dm_others.specs.Locking.{IsSent, claimed}
use Rattle.dm_invariant.proofs.LastSteps.{last_begin, last_route}
use Rattle.dm_invariant.specs.Running.{RoutedFor}
use Rattle.dm_invariant.specs.Keeping.{Parts, Keeps}
use Rattle.dm_invariant.specs.Stations.{View, own}

-- a session whose last own step is a Route stands routed by it
pub routed_here : (txn : TxnId) (wanted : Want) (min : List ℕ) (site : ℕ) (pass : View) → (r : RoutedFor txn wanted min site pass)
    → routed txn (reverse pass.seen) ≡ Some (record { txn = txn; want = wanted; min = min; site = site; choice = r.1 })
routed_here txn wanted min site pass r = last_route pass.seen r.0 txn wanted min site r.1 r.2

-- a session whose last own step is a Begin at a site where its attempt doesn't run was dropped
pub dropped_here : (layout : Layout) (steps before : List Step) (site : ℕ) (txn : TxnId) (begin : List ℕ) → Legal layout steps
    → own (Session txn.session) steps ≡ before ++ Begin site txn begin ∷ [] → runs site txn (reverse steps) ≡ false
    → state txn.session (reverse steps) ≡ stands.Dropped
dropped_here layout steps before site txn begin l e r =
    last_begin site txn steps before begin e ∙ ap (λ (b : Bool). cond b (stands.Running site) stands.Dropped) r

pub session_in_range : (layout : Layout) (past : List Step) (txn : TxnId) → LegalPast layout past → IsSome (routed txn past)
    → (1 ≤ txn.session) × (txn.session ≤ MAX_SESSIONS)
session_in_range layout past txn l r =
    let session = (and_parts (is_session txn.session) _ (routed_fits layout past txn l r)).0 in
    let range = and_parts (nat_le 1 txn.session) (nat_le txn.session MAX_SESSIONS) session in
    (leb-true 1 txn.session range.0, leb-true txn.session MAX_SESSIONS range.1)

-- its Route stands in the list
route_in : (past : List Step) (site : ℕ) (txn : TxnId) (keys min : List ℕ) (r : IsRouted site txn keys min past)
    → In (Route txn (want.Txn keys) min site r.0) past
route_in past site txn keys min r =
    let sent = routed_sent past txn (ap (λ (o : Option Routing). is_some o) r.1) in
    subst (λ (z : Routing). In (Route txn z.want z.min z.site z.choice) past) (the (sym sent.by ∙ r.1)) sent.stands_in
  where
    the : {a b : Routing} → Some a ≡ Some b → a ≡ b
    the e = cc (e)

pub keys_in_range : (layout : Layout) (past : List Step) (site : ℕ) (txn : TxnId) (keys min : List ℕ) → LegalPast layout past → IsRouted site txn keys min past
    → list_all (is_key layout) keys ≡ true
keys_in_range layout past site txn keys min l r =
    let shape = shaped_in layout past (Route txn (want.Txn keys) min site r.0) l (route_in past site txn keys min r) in
    let wanted = (and_parts (is_want layout (want.Txn keys)) _ (and_parts (is_txn layout txn) _ shape).1).0 in
    (and_parts _ (list_all (is_key layout) keys) (and_parts (is_ascending keys) _ wanted).1).1

-- ---- lists of attempts

each_passing : (P : TxnId → Type 0) (p : TxnId → Bool) → ((u : TxnId) → p u ≡ true → P u) → (ts : List TxnId) → Each P (filter p ts)
each_passing P p f [] = tt
each_passing P p f (u ∷ us) = by (p u) refl (each_passing P p f us)
  where
    by : (b : Bool) → p u ≡ b → Each P (filter p us) → Each P (cond b (u ∷ filter p us) (filter p us))
    by true e rest = (f u e, rest)
    by false e rest = rest

of_none : (past : List Step) (session : ℕ) (us : List TxnId) → Each (λ u. (u.session == session) ≡ false) us
    → Each (λ claim. is_of_session session claim ≡ false) (map (claimed past) us)
of_none past session [] h = tt
of_none past session (u ∷ us) h = (h.0, of_none past session us h.1)

-- where no claim has one of the keys, no attempt stands in their way
no_holder : (past : List Step) (keys : List ℕ) (ts : List TxnId) → Each (λ claim. common_key keys claim.keys ≡ None) (map (claimed past) ts)
    → holder_among keys ts past ≡ None
no_holder past keys [] h = refl
no_holder past keys (t ∷ ts) h =
    ap (λ (o : Option ℕ). option_or (option_map (λ key. (t, key)) o) (holder_among keys ts past)) h.0 ∙ no_holder past keys ts h.1

module _ (layout : Layout) (opened : List ℕ) (site : ℕ) (past : List Step) (parts : Parts) (k : Keeps layout opened site past parts) where
  -- a session that stands routed holds nothing
  pub holds_nothing : (txn : TxnId) → IsSome (routed txn past) → count_of (is_of_session txn.session) parts.locks.holders ≡ 0
  holds_nothing txn r =
      ap (λ (claims : List Claim). count_of (is_of_session txn.session) claims) k.holders
      ∙ count_none (is_of_session txn.session) (map (claimed past) (running site past))
      (of_none past txn.session (running site past)
      (each_passing (λ u. (u.session == txn.session) ≡ false) (λ u. runs site u past) apart (reverse (filter_map (begun_at site) past))))
    where
      apart : (u : TxnId) → runs site u past ≡ true → (u.session == txn.session) ≡ false
      apart u q = elim (cases_Bool (u.session == txn.session)) [
        | inl p ↦ absurd (false≢true (ap is_routed (sym (seated layout past k.legal site u q).runs)
            ∙ (ap (λ (session : ℕ). is_routed (state session past)) (eqb-true u.session txn.session p) ∙ (routed_stands past txn r).state)))
        | inr p ↦ p
      ]

  module _ (txn : TxnId) (keys min : List ℕ) (r : IsRouted site txn keys min past) where
    sent : IsSent site past (record { txn = txn; keys = keys })
    sent = (min, r.0, route_in past site txn keys min r)

    -- it has these keys
    pub claims_these : claimed past txn ≡ record { txn = txn; keys = keys }
    claims_these = sent_claim layout past site (record { txn = txn; keys = keys }) k.legal sent

    -- where it waits, it waits for its keys
    pub waits_for_these : IfSome (claim_of txn parts.locks.waiters) (λ waiting. waiting.keys ≡ keys)
    waits_for_these =
        line.waits_for txn keys parts.locks.waiters
        (each_map (IsSent site past) (λ c. c.txn ≡ txn → c.keys ≡ keys) its parts.locks.waiters k.waiters)
      where
        its : (c : Claim) → IsSent site past c → c.txn ≡ txn → c.keys ≡ keys
        its c s e =
            ap (λ (z : Claim). z.keys) (sym (sent_claim layout past site c k.legal s) ∙ ap (λ (t : TxnId). claimed past t) e ∙ claims_these)

    -- who is served may begin
    pub served_may_begin : (now : Locks) → IsFalse (is_down site past) → elsewhere layout past site keys ≡ None
        → AtMost min (site_vector layout.sites past site)
        → IsServed (record { txn = txn; keys = keys }) parts.locks now → Allowed layout past (Begin site txn (site_vector layout.sites past site))
    served_may_begin now up here m s =
        may_begin layout past k.legal site k.there txn keys min r up here m
        (no_holder past keys (running site past)
        (subst (λ (claims : List Claim). Each (λ claim. common_key keys claim.keys ≡ None) claims) k.holders
        (line.served_apart (record { txn = txn; keys = keys }) parts.locks now s)))

    -- who waits afterwards was sent to the site
    pub served_waiters : (now : Locks) → IsServed (record { txn = txn; keys = keys }) parts.locks now → Each (IsSent site past) now.waiters
    served_waiters now s = line.waiters_keep (IsSent site past) (record { txn = txn; keys = keys }) parts.locks now Got s k.waiters sent

    pub held_up_waiters : (now : Locks) (by : TxnId) (key : ℕ) → IsHeldUp (record { txn = txn; keys = keys }) parts.locks now by key
        → Each (IsSent site past) now.waiters
    held_up_waiters now by key h =
        line.waiters_keep (IsSent site past) (record { txn = txn; keys = keys }) parts.locks now (Waits by key) h k.waiters sent

    pub held_up_holders : (now : Locks) (by : TxnId) (key : ℕ) → IsHeldUp (record { txn = txn; keys = keys }) parts.locks now by key
        → now.holders ≡ parts.locks.holders
    held_up_holders now by key h = line.held_up_holders (record { txn = txn; keys = keys }) parts.locks now by key h
