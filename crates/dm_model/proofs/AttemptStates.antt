-- What the state of a session's attempt says of its Route and of its run.
use Rattle.std.proofs.Common.{ℕ, ◌≡◌, Bool, true, false, ◌==◌, if◌then◌else◌, List, [], ◌∷◌, Option, Some, None, refl, ap, subst, unwrap_or}
use Rattle.std.specs.Option.{option_or}
use Rattle.std.specs.Prelude.{option_map}
use Rattle.dm_event.specs.declared.attempt.AttemptState.{AttemptState}
use Rattle.dm_event.specs.declared.attempt.AttemptState.TheVariants as stands
use Rattle.dm_event.specs.declared.step.Choice.{Choice}
use Rattle.dm_event.specs.declared.step.Pending.TheVariants as pending
use Rattle.dm_event.specs.declared.step.Step.{Step}
use Rattle.dm_event.specs.declared.step.Step.TheVariants.{Route, Reply, Begin, Moved, Commit, End, Fail, Doubt, Restart}
use Rattle.dm_model.proofs.StepTests.{state_or}
use Rattle.dm_model.specs.Attempts.{Routing, last_routing, is_reply, dropped_at, state, attempt}
use Rattle.dm_model.specs.Words.{since}

-- the Route of the session's current item
abbrev pub item_routing : ℕ → List Step → Option Routing
item_routing c past = last_routing c (since (is_reply c) past)

-- ---- a session that stands routed

-- by a Route to this site by this choice, which is both the session's last and the current item's
record ByRoute (site : ℕ) (choice : Choice) (last item : Option Routing) : Type 0 where
  route : Routing
  is_last : last ≡ Some route
  is_item : item ≡ Some route
  at_site : route.site ≡ site
  chosen : route.choice ≡ choice

abbrev RoutedBy : AttemptState → Option Routing → Option Routing → Type 0
RoutedBy (stands.Routed site choice) last item = ByRoute site choice last item
RoutedBy other last item = Unit {0}

routed_dropped : (site : ℕ) (st : AttemptState) (last item : Option Routing) → RoutedBy st last item → RoutedBy (dropped_at site st) last item
routed_dropped site (stands.Running k) last item h = by (k == site)
  where
    by : (b : Bool) → RoutedBy (if b then stands.Dropped else stands.Running k) last item
    by true = tt
    by false = tt
routed_dropped site other last item h = h

routed_by : (c : ℕ) (past : List Step) → RoutedBy (state c past) (last_routing c past) (item_routing c past)
routed_by c [] = tt
routed_by c (Route txn want min site choice ∷ past) = by (txn.session == c) (routed_by c past)
  where
    route : Routing
    route = record { txn = txn; want = want; min = min; site = site; choice = choice }

    by : (b : Bool) → RoutedBy (state c past) (last_routing c past) (item_routing c past)
        → RoutedBy (unwrap_or (if b then Some (stands.Routed site choice) else None) (state c past))
        (option_or (if b then Some route else None) (last_routing c past)) (option_or (if b then Some route else None) (item_routing c past))
    by true h = record { route = route; is_last = refl; is_item = refl; at_site = refl; chosen = refl }
    by false h = h
routed_by c (Reply session number said ∷ past) = by (session == c) (routed_by c past)
  where
    by : (b : Bool) → RoutedBy (state c past) (last_routing c past) (item_routing c past)
        → RoutedBy (unwrap_or (if b then Some stands.Unrouted else None) (state c past)) (last_routing c past)
        (last_routing c (if b then [] else Reply session number said ∷ since (is_reply c) past))
    by true h = tt
    by false h = h
routed_by c (Moved site txn ∷ past) = state_or (λ st. RoutedBy st (last_routing c past) (item_routing c past)) (txn.session == c) stands.Moved (state c past)
    (λ e. tt) (λ e. routed_by c past)
routed_by c (Begin site txn begin ∷ past) = state_or (λ st. RoutedBy st (last_routing c past) (item_routing c past)) (txn.session == c) (stands.Running site)
    (state c past) (λ e. tt) (λ e. routed_by c past)
routed_by c (Commit e ∷ past) = state_or (λ st. RoutedBy st (last_routing c past) (item_routing c past)) (e.txn.session == c) (stands.Committed e.origin e.seq)
    (state c past) (λ e. tt) (λ e. routed_by c past)
routed_by c (End site txn ops reads ∷ past) = state_or (λ st. RoutedBy st (last_routing c past) (item_routing c past)) (txn.session == c) (stands.Ended site)
    (state c past) (λ e. tt) (λ e. routed_by c past)
routed_by c (Fail site txn cause ∷ past) = state_or (λ st. RoutedBy st (last_routing c past) (item_routing c past)) (txn.session == c) (stands.Failed cause)
    (state c past) (λ e. tt) (λ e. routed_by c past)
routed_by c (Doubt site (pending.Commit e) ∷ past) = state_or (λ st. RoutedBy st (last_routing c past) (item_routing c past)) (e.txn.session == c)
    (stands.Doubted site) (dropped_at site (state c past)) (λ e. tt) (λ e. routed_dropped site (state c past) _ _ (routed_by c past))
routed_by c (Doubt site (pending.Release part epoch to vector) ∷ past) = routed_dropped site (state c past) _ _ (routed_by c past)
routed_by c (Doubt site (pending.Grant part epoch vector) ∷ past) = routed_dropped site (state c past) _ _ (routed_by c past)
routed_by c (Restart site vector found ∷ past) = routed_dropped site (state c past) _ _ (routed_by c past)
routed_by c (other ∷ past) = routed_by c past

-- a session that stands routed does so by its last Route, which its state and its attempt tell
pub routed_tells : (c site : ℕ) (choice : Choice) (past : List Step) → state c past ≡ stands.Routed site choice
    → (r : Routing) × (last_routing c past ≡ Some r) × (r.site ≡ site) × (r.choice ≡ choice) × ((attempt c past).txn ≡ Some r.txn)
routed_tells c site choice past e =
    let h = subst (λ (x : AttemptState). RoutedBy x (last_routing c past) (item_routing c past)) e (routed_by c past) in
    (h.route, h.is_last, h.at_site, h.chosen, ap (λ (o : Option Routing). option_map (λ r. r.txn) o) h.is_item)
