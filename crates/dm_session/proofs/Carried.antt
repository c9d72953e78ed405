-- What steps of others leave of a session, and what its own last step says.
use Rattle.std.proofs.Common.{◌≡◌, ℕ, suc, Bool, true, false, ◌==◌, ◌||◌, ◌&&◌, if◌then◌else◌, List, [], ◌∷◌, ◌++◌, Option, Some, None, refl, sym, ap, ◌∙◌}
use Rattle.std.proofs.Common.{subst, append_assoc, append-nil, unwrap_or}
use mathlib.Core.List.{IsPrefix}
use Rattle.std.proofs.lemmas.Bool.{false≢true, eq-eqb, or_right, and_parts, and_from}
use Rattle.std.proofs.lemmas.List.{reverse-append, reverse-reverse}
use Rattle.std.specs.List.{AllByRecursion as Each, cons_option, list_any}
use Rattle.std.specs.Option.{option_or, option_map_or}
use Rattle.std.specs.Prelude.{reverse, filter_map}
use Rattle.dm_chronicle.specs.Belongs.{belongs}
use Rattle.dm_chronicle.specs.Rule.{keep_if}
use Rattle.dm_chronicle.proofs.Lists.{mine_append}
use Rattle.dm_event.specs.Actors.{actors}
use Rattle.dm_event.specs.Layout.{Layout}
use Rattle.dm_event.specs.declared.actor.Actor.TheVariants.{Session}
use Rattle.dm_event.specs.declared.attempt.AttemptState.{AttemptState}
use Rattle.dm_event.specs.declared.attempt.AttemptState.TheVariants as stands
use Rattle.dm_event.specs.declared.placing.Placing.{Placing}
use Rattle.dm_event.specs.declared.step.Cause.TheVariants as cause
use Rattle.dm_event.specs.declared.step.Pending.TheVariants as pending
use Rattle.dm_event.specs.declared.step.Said.{Said}
use Rattle.dm_event.specs.declared.step.Said.TheVariants as said
use Rattle.dm_event.specs.declared.step.Step.{Step}
use Rattle.dm_event.specs.declared.step.Step.TheVariants.{Route, Reply, Begin, Moved, Commit, End, Fail, Doubt, Restart}
use Rattle.dm_event.specs.declared.step.Want.{Want}
use Rattle.dm_model.specs.Attempts.{Routing, is_reply, is_route, replies, routes, routing_of, last_routing, state, state_by, dropped_at, dropped_by, is_routed}
use Rattle.dm_model.specs.Outcomes.{placings_since, settled_epoch, settled_epochs, restarted_since, is_committed, is_ended, is_doubted, may_give_up}
use Rattle.dm_model.specs.Outcomes.{has_failed, is_routed_for, may_say, wants_place, wants_restart, is_unrouted}
use Rattle.dm_model.specs.Progress.{is_restart}
use Rattle.dm_model.specs.Rows.{may_route}
use Rattle.dm_model.specs.Sessions.{answered, answered_by, session_vector}
use Rattle.dm_model.specs.Tests.{is_among}
use Rattle.dm_model.specs.Words.{since, count_of}
use Rattle.dm_invariant.specs.Stations.{own}
use Rattle.dm_session.specs.Sitting.{IsBetween}

-- the step isn't the session's
abbrev pub IsOther : ℕ → Step → Type 0
IsOther c s = belongs actors s (Session c) ≡ false

-- ---- facts that go on

kept_nil : (b : Bool) (s : Step) (rest : List Step) → keep_if b s rest ≡ [] → (b ≡ false) × (rest ≡ [])
kept_nil true s rest h = absurd (cc (h))
kept_nil false s rest h = (refl, h)

cancel : (xs ys zs : List Step) → xs ++ ys ≡ xs ++ zs → ys ≡ zs
cancel [] ys zs h = h
cancel (x ∷ xs) ys zs h = cancel xs ys zs (ap rest_of h)
  where
    rest_of : List Step → List Step
    rest_of [] = []
    rest_of (y ∷ ys') = ys'

module _ (c : ℕ) (P : List Step → Type 0) (A : Step → Type 0) (mine_keeps : (s : Step) (past : List Step) → A s → P past → P (s ∷ past))
    (other_keeps : (s : Step) (past : List Step) → IsOther c s → P past → P (s ∷ past)) where
  carry_on : (old rest : List Step) → Each A (own (Session c) rest) → P (reverse old) → P (reverse (old ++ rest))
  carry_on old [] e p = subst (λ (l : List Step). P (reverse l)) (sym (append-nil old)) p
  carry_on old (s ∷ rest) e p = by (belongs actors s (Session c)) refl e (λ f q. carry_on (old ++ s ∷ []) rest f q)
    where
      next : P (s ∷ reverse old) → P (reverse (old ++ s ∷ []))
      next q = subst P (sym (reverse-append old (s ∷ []))) q

      by : (b : Bool) → belongs actors s (Session c) ≡ b → Each A (keep_if b s (own (Session c) rest))
          → (Each A (own (Session c) rest) → P (reverse (old ++ s ∷ [])) → P (reverse ((old ++ s ∷ []) ++ rest))) → P (reverse (old ++ s ∷ rest))
      by true q f go = subst (λ (l : List Step). P (reverse l)) (append_assoc old (s ∷ []) rest) (go f.1 (next (mine_keeps s (reverse old) f.0 p)))
      by false q f go = subst (λ (l : List Step). P (reverse l)) (append_assoc old (s ∷ []) rest) (go f (next (other_keeps s (reverse old) q p)))

  -- the fact holds of a longer list, where the session's further steps are such
  pub carried : (old new way : List Step) → IsPrefix old new → own (Session c) new ≡ own (Session c) old ++ way → Each A way → P (reverse old) → P (reverse new)
  carried old new way begins same each p =
      let here : own (Session c) begins.0 ≡ way =
      cancel (own (Session c) old) (own (Session c) begins.0) way (sym (mine_append (belongs actors) (Session c) old begins.0)
      ∙ ap (own (Session c)) begins.1 ∙ same) in
      subst (λ (l : List Step). P (reverse l)) begins.1 (carry_on old begins.0 (subst (Each A) (sym here) each) p)

module _ (c : ℕ) (P : List Step → Type 0) (other_keeps : (s : Step) (past : List Step) → IsOther c s → P past → P (s ∷ past)) where
  -- the same, where no step of the session comes
  pub carried_over : (old new : List Step) → IsPrefix old new → own (Session c) new ≡ own (Session c) old → P (reverse old) → P (reverse new)
  carried_over old new begins same p =
      carried c P (λ s. ⊥) (λ s past a q. absurd a) other_keeps old new [] begins (same ∙ sym (append-nil (own (Session c) old))) tt p

  at_end : (xs ys : List Step) (s t : Step) → xs ++ s ∷ [] ≡ ys ++ t ∷ [] → s ≡ t
  at_end xs ys s t h = ap head (sym (reverse-append xs (s ∷ [])) ∙ (ap reverse h ∙ reverse-append ys (t ∷ [])))
    where
      head : List Step → Step
      head [] = s
      head (x ∷ l) = x

  nothing_ends : (ys : List Step) (t : Step) → [] ≡ ys ++ t ∷ [] → ⊥
  nothing_ends [] t h = cc (h)
  nothing_ends (y ∷ ys) t h = cc (h)

  last_past : (past before : List Step) (s : Step) → ((q : List Step) → P (s ∷ q)) → own (Session c) (reverse past) ≡ before ++ s ∷ [] → P past
  last_past [] before s here h = absurd (nothing_ends before s h)
  last_past (t ∷ past) before s here h =
      by (belongs actors t (Session c)) refl (sym (ap (own (Session c)) (reverse-append (t ∷ []) past)
      ∙ mine_append (belongs actors) (Session c) (reverse past) (t ∷ [])) ∙ h) (λ g. last_past past before s here g)
    where
      by : (b : Bool) → belongs actors t (Session c) ≡ b → own (Session c) (reverse past) ++ keep_if b t [] ≡ before ++ s ∷ []
          → (own (Session c) (reverse past) ≡ before ++ s ∷ [] → P past) → P (t ∷ past)
      by true q g go = subst (λ (x : Step). P (x ∷ past)) (sym (at_end (own (Session c) (reverse past)) before t s g)) (here past)
      by false q g go = other_keeps t past q (go (sym (append-nil (own (Session c) (reverse past))) ∙ g))

  -- the fact holds wherever the session's last step makes it hold
  pub by_last : (xs before : List Step) (s : Step) → ((q : List Step) → P (s ∷ q)) → own (Session c) xs ≡ before ++ s ∷ [] → P (reverse xs)
  by_last xs before s here h = last_past (reverse xs) before s here (ap (own (Session c)) (reverse-reverse xs) ∙ h)

-- ---- a step of another

or_none : (b : Bool) → (b || false) ≡ false → b ≡ false
or_none true h = h
or_none false h = h

if_false : {X : Type 0} (b : Bool) (x y : X) → b ≡ false → (if b then x else y) ≡ y
if_false true x y h = absurd (false≢true (sym h))
if_false false x y h = refl

pub no_reply : (c : ℕ) (s : Step) → IsOther c s → is_reply c s ≡ false
no_reply c (Reply session number o) h = or_none (session == c) h
no_reply c other h = refl

pub no_route : (c : ℕ) (s : Step) → IsOther c s → is_route c s ≡ false
no_route c (Route txn want min site choice) h = or_none (txn.session == c) h
no_route c other h = refl

pub no_state : (c : ℕ) (s : Step) → IsOther c s → state_by c s ≡ None
no_state c (Route txn want min site choice) h = if_false (txn.session == c) _ None (or_none (txn.session == c) h)
no_state c (Reply session number o) h = if_false (session == c) _ None (or_none (session == c) h)
no_state c (Moved site txn) h = if_false (txn.session == c) _ None h
no_state c (Begin site txn begin) h = if_false (txn.session == c) _ None h
no_state c (Commit e) h = if_false (e.txn.session == c) _ None h
no_state c (End site txn ops reads) h = if_false (txn.session == c) _ None h
no_state c (Fail site txn why) h = if_false (txn.session == c) _ None h
no_state c (Doubt site (pending.Commit e)) h = if_false (e.txn.session == c) _ None h
no_state c (Doubt site other) h = refl
no_state c other h = refl

no_routing : (c : ℕ) (s : Step) → IsOther c s → routing_of (λ txn. txn.session == c) s ≡ None
no_routing c (Route txn want min site choice) h = if_false (txn.session == c) _ None (or_none (txn.session == c) h)
no_routing c other h = refl

-- ---- of numbers and vectors: also a step of the session that is neither a Route nor a Reply

pub other_between : (c : ℕ) (s : Step) → IsOther c s → IsBetween c s
other_between c s h = (no_reply c s h, no_route c s h)

replies_next : (c : ℕ) (s : Step) (past : List Step) → is_reply c s ≡ false → replies c (s ∷ past) ≡ replies c past
replies_next c s past h = if_false (is_reply c s) (suc (replies c past)) (replies c past) h

routes_next : (c : ℕ) (s : Step) (past : List Step) → IsBetween c s → routes c (s ∷ past) ≡ routes c past
routes_next c s past h =
    ap (count_of (is_route c)) (if_false (is_reply c s) [] (s ∷ since (is_reply c) past) h.0)
    ∙ if_false (is_route c s) (suc (routes c past)) (routes c past) h.1

answered_next : (c : ℕ) (s : Step) (past : List Step) → is_reply c s ≡ false → answered_by c s past ≡ None
answered_next c (Reply session number (said.Committed site seq)) past h = if_false (session == c) _ None h
answered_next c (Reply session number (said.Read site)) past h = if_false (session == c) _ None h
answered_next c (Reply session number other) past h = refl
answered_next c other past h = refl

vector_next : (count c : ℕ) (s : Step) (past : List Step) → is_reply c s ≡ false → session_vector count (s ∷ past) c ≡ session_vector count past c
vector_next count c s past h =
    ap (λ (o : Option (List ℕ)). Rattle.dm_event.specs.Vectors.join_all count (cons_option o (answered c past))) (answered_next c s past h)

module _ (c : ℕ) (old new way : List Step) (begins : IsPrefix old new) (same : own (Session c) new ≡ own (Session c) old ++ way)
    (each : Each (IsBetween c) way) where
  pub replies_stay : replies c (reverse new) ≡ replies c (reverse old)
  replies_stay = carried c (λ past. replies c past ≡ replies c (reverse old)) (IsBetween c)
      (λ s past a p. replies_next c s past a.0 ∙ p) (λ s past a p. replies_next c s past (no_reply c s a) ∙ p) old new way begins same each refl

  pub routes_stay : routes c (reverse new) ≡ routes c (reverse old)
  routes_stay = carried c (λ past. routes c past ≡ routes c (reverse old)) (IsBetween c)
      (λ s past a p. routes_next c s past a ∙ p) (λ s past a p. routes_next c s past (other_between c s a) ∙ p) old new way begins same each refl

  pub vector_stays : (count : ℕ) → session_vector count (reverse new) c ≡ session_vector count (reverse old) c
  vector_stays count = carried c (λ past. session_vector count past c ≡ session_vector count (reverse old) c) (IsBetween c)
      (λ s past a p. vector_next count c s past a.0 ∙ p) (λ s past a p. vector_next count c s past (no_reply c s a) ∙ p) old new way begins same each refl

-- ---- of the state

pub state_next : (c : ℕ) (s : Step) (past : List Step) → IsOther c s → state c (s ∷ past) ≡ dropped_by s (state c past)
state_next c s past h = ap (λ (o : Option AttemptState). unwrap_or o (dropped_by s (state c past))) (no_state c s h)

-- what runs at no site isn't dropped
abbrev pub Stays : AttemptState → Type 0
Stays (stands.Running site) = ⊥
Stays other = Unit {0}

at_stays : (i : ℕ) (st : AttemptState) → Stays st → dropped_at i st ≡ st
at_stays i (stands.Running site) h = absurd h
at_stays i other h = refl

by_stays : (s : Step) (st : AttemptState) → Stays st → dropped_by s st ≡ st
by_stays (Doubt site p) st h = at_stays site st h
by_stays (Restart site vector found) st h = at_stays site st h
by_stays other st h = refl

pub state_kept : (c : ℕ) (st : AttemptState) → Stays st → (s : Step) (past : List Step) → IsOther c s → state c past ≡ st → state c (s ∷ past) ≡ st
state_kept c st stays s past h e = state_next c s past h ∙ (ap (dropped_by s) e ∙ by_stays s st stays)

-- a state that doesn't run is the same until the session's next step
pub state_stays : (c : ℕ) (st : AttemptState) → Stays st → (old new : List Step) → IsPrefix old new → own (Session c) new ≡ own (Session c) old
    → state c (reverse old) ≡ st → state c (reverse new) ≡ st
state_stays c st stays old new begins same e = carried_over c (λ past. state c past ≡ st) (state_kept c st stays) old new begins same e

-- the state after the session's last step, where it doesn't run
pub state_last : (c : ℕ) (st : AttemptState) → Stays st → (xs before : List Step) (s : Step) → own (Session c) xs ≡ before ++ s ∷ []
    → state_by c s ≡ Some st → state c (reverse xs) ≡ st
state_last c st stays xs before s h e =
    by_last c (λ past. state c past ≡ st) (state_kept c st stays) xs before s
    (λ q. ap (λ (o : Option AttemptState). unwrap_or o (dropped_by s (state c q))) e) h

-- a test that no running attempt passes goes on
passing : (Q : AttemptState → Bool) → ((site : ℕ) → Q (stands.Running site) ≡ false) → (st : AttemptState) → Q st ≡ true → Stays st
passing Q not (stands.Running site) h = absurd (false≢true (sym (not site) ∙ h))
passing Q not other h = tt

pub passes_on : (c : ℕ) (Q : AttemptState → Bool) → ((site : ℕ) → Q (stands.Running site) ≡ false) → (s : Step) (past : List Step) → IsOther c s
    → Q (state c past) ≡ true → Q (state c (s ∷ past)) ≡ true
passes_on c Q not s past h q = ap Q (state_kept c (state c past) (passing Q not (state c past) q) s past h refl) ∙ q

pub may_route_stays : (c : ℕ) (old new : List Step) → IsPrefix old new → own (Session c) new ≡ own (Session c) old
    → may_route (state c (reverse old)) ≡ true → may_route (state c (reverse new)) ≡ true
may_route_stays c old new begins same e = carried_over c (λ past. may_route (state c past) ≡ true) (passes_on c may_route (λ site. refl)) old new begins same e

-- ---- of the Route

last_next : (c : ℕ) (s : Step) (past : List Step) → IsOther c s → last_routing c (s ∷ past) ≡ last_routing c past
last_next c s past h = ap (λ (o : Option Routing). option_or o (last_routing c past)) (no_routing c s h)

abbrev pub RoutedSo : ℕ → Routing → List Step → Type 0
RoutedSo c r past = (state c past ≡ stands.Routed r.site r.choice) × (last_routing c past ≡ Some r)

routed_kept : (c : ℕ) (r : Routing) (s : Step) (past : List Step) → IsOther c s → RoutedSo c r past → RoutedSo c r (s ∷ past)
routed_kept c r s past h e = (state_kept c (stands.Routed r.site r.choice) tt s past h e.0, last_next c s past h ∙ e.1)

abbrev pub route_of : Routing → Step
route_of r = Route r.txn r.want r.min r.site r.choice

here_if : {X : Type 0} (b : Bool) (x y : X) → b ≡ true → (if b then x else y) ≡ x
here_if true x y h = refl
here_if false x y h = absurd (false≢true h)

-- where the session's last step is a Route it stands routed by it
pub routed_last : (c : ℕ) (r : Routing) (xs before : List Step) → r.txn.session ≡ c → own (Session c) xs ≡ before ++ route_of r ∷ [] → RoutedSo c r (reverse xs)
routed_last c r xs before is h = by_last c (RoutedSo c r) (routed_kept c r) xs before (route_of r)
    (λ q. (
      ap (λ (o : Option AttemptState). unwrap_or o (state c q)) (here_if (r.txn.session == c) (Some (stands.Routed r.site r.choice)) None
          (eq-eqb r.txn.session c is)),
      ap (λ (o : Option Routing). option_or o (last_routing c q)) (here_if (r.txn.session == c) (Some r) None (eq-eqb r.txn.session c is)),
    ))
    h

-- ---- of what may be answered

among_more : (o : Option ℕ) (xs : List ℕ) (e : ℕ) → is_among xs e ≡ true → is_among (cons_option o xs) e ≡ true
among_more None xs e h = h
among_more (Some x) xs e h = or_right (x == e) (is_among xs e) h

settled_next : (layout : Layout) (c part site epoch : ℕ) (s : Step) (past : List Step) → IsOther c s
    → is_among (settled_epochs layout past c part site) epoch ≡ true → is_among (settled_epochs layout (s ∷ past) c part site) epoch ≡ true
settled_next layout c part site epoch s past h e =
    among_more (settled_epoch site (placing' (s ∷ past))) (filter_map (settled_epoch site) (if is_route c s then [] else placings_since layout past c part))
    epoch
    (ap (λ (l : List Placing). is_among (filter_map (settled_epoch site) l) epoch)
    (if_false (is_route c s) [] (placings_since layout past c part) (no_route c s h)) ∙ e)
  where
    placing' : List Step → Placing
    placing' p = Rattle.dm_model.specs.Placings.placing layout p part

restarted_next : (c site : ℕ) (s : Step) (past : List Step) → IsOther c s → restarted_since c site past ≡ true → restarted_since c site (s ∷ past) ≡ true
restarted_next c site s past h e =
    ap (list_any (is_restart site)) (if_false (is_route c s) [] (s ∷ since (is_route c) past) (no_route c s h))
    ∙ or_right (is_restart site s) (restarted_since c site past) e

routed_for_next : (c site : ℕ) (p : Want → Bool) (s : Step) (past : List Step) → IsOther c s → is_routed_for c site p past ≡ true
    → is_routed_for c site p (s ∷ past) ≡ true
routed_for_next c site p s past h e = by (is_routed (state c past)) refl e
  where
    by : (b : Bool) → is_routed (state c past) ≡ b
        → option_map_or (λ r. (r.site == site) && p r.want) (if b then last_routing c past else None) false ≡ true → is_routed_for c site p (s ∷ past) ≡ true
    by true q g =
        let q' : is_routed (state c (s ∷ past)) ≡ true = passes_on c is_routed (λ k. refl) s past h q in
        ap (λ (b : Bool). option_map_or (λ r. (r.site == site) && p r.want) (if b then last_routing c (s ∷ past) else None) false) q'
        ∙ (ap (λ (o : Option Routing). option_map_or (λ r. (r.site == site) && p r.want) o false) (last_next c s past h) ∙ g)
    by false q g = absurd (false≢true g)

say_next : (layout : Layout) (c : ℕ) (o : Said) (s : Step) (past : List Step) → IsOther c s → may_say layout past c o ≡ true
    → may_say layout (s ∷ past) c o ≡ true
say_next layout c (said.Committed site seq) s past h e = passes_on c (λ st. is_committed st site seq) (λ k. refl) s past h e
say_next layout c (said.Read site) s past h e = passes_on c (λ st. is_ended st site) (λ k. refl) s past h e
say_next layout c (said.InDoubt site) s past h e = passes_on c (λ st. is_doubted st site) (λ k. refl) s past h e
say_next layout c (said.Placed part site epoch) s past h e =
    let p = and_parts (is_routed_for c site (wants_place part) past) (is_among (settled_epochs layout past c part site) epoch) e in
    and_from _ _ (routed_for_next c site (wants_place part) s past h p.0) (settled_next layout c part site epoch s past h p.1)
say_next layout c (said.Restarted site) s past h e =
    let p = and_parts (is_routed_for c site wants_restart past) (restarted_since c site past) e in
    and_from _ _ (routed_for_next c site wants_restart s past h p.0) (restarted_next c site s past h p.1)
say_next layout c (said.Refused (cause.Undeclared key)) s past h e = passes_on c is_unrouted (λ k. refl) s past h e
say_next layout c (said.Refused (cause.Log site)) s past h e = passes_on c (λ st. has_failed st (cause.Log site)) (λ k. refl) s past h e
say_next layout c (said.Refused (cause.Damage site place read written)) s past h e =
    passes_on c (λ st. has_failed st (cause.Damage site place read written)) (λ k. refl) s past h e
say_next layout c (said.Refused cause.Memory) s past h e = passes_on c may_give_up (λ k. refl) s past h e

-- an outcome that is allowed stays allowed until the session's next step
pub may_say_stays : (layout : Layout) (c : ℕ) (o : Said) (old new : List Step) → IsPrefix old new → own (Session c) new ≡ own (Session c) old
    → may_say layout (reverse old) c o ≡ true → may_say layout (reverse new) c o ≡ true
may_say_stays layout c o old new begins same e = carried_over c (λ past. may_say layout past c o ≡ true) (say_next layout c o) old new begins same e
