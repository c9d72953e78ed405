-- The outcome due is allowed, and there is one where another than a refusal for memory or an undeclared write is allowed.
use Rattle.std.proofs.Common.{ℕ, ◌≡◌, Bool, true, false, ◌==◌, ◌&&◌, if◌then◌else◌, List, [], ◌∷◌, Option, Some, None, refl, ap, ◌∙◌, subst, ◌≢◌, sym}
use Rattle.std.proofs.lemmas.Bool.{eq-eqb, and_from, or_left, false≢true, eqb-true, and_parts}
use Rattle.std.specs.Option.{option_map_or}
use Rattle.std.specs.Prelude.{slice_get, option_map, option_and_then, is_some}
use Rattle.dm_event.specs.Layout.{Layout}
use Rattle.dm_event.specs.declared.attempt.AttemptState.{AttemptState}
use Rattle.dm_event.specs.declared.attempt.AttemptState.TheVariants as stands
use Rattle.dm_event.specs.declared.step.Cause.{Cause}
use Rattle.dm_event.specs.declared.step.Cause.TheVariants.{Undeclared, Log, Damage, Memory}
use Rattle.dm_event.specs.declared.step.Choice.{Choice}
use Rattle.dm_event.specs.declared.step.Said.{Said}
use Rattle.dm_event.specs.declared.step.Said.TheVariants as said
use Rattle.dm_event.specs.declared.step.Step.{Step}
use Rattle.dm_event.specs.declared.step.Want.{Want}
use Rattle.dm_event.specs.declared.step.Want.TheVariants as want
use Rattle.dm_model.proofs.SameValues.{same_cause-own}
use Rattle.dm_model.specs.Attempts.{Routing, state, last_routing, standing, is_routed}
use Rattle.dm_model.specs.Outcomes.{is_routed_for, due_of, due_in, refused_due, may_say, said_due, settled_epochs, restarted_since, wants_place, wants_restart}
use Rattle.dm_model.specs.Outcomes.{has_failed, may_give_up, is_committed, is_ended, is_doubted}
use Rattle.dm_model.specs.Tests.{same_cause, is_among}

module _ (layout : Layout) (past : List Step) (c : ℕ) where
  routed_for : (site : ℕ) (choice : Choice) (r : Routing) (p : Want → Bool) → state c past ≡ stands.Routed site choice → last_routing c past ≡ Some r
      → p r.want ≡ true
      → is_routed_for c r.site p past ≡ true
  routed_for site choice r p e l w =
      let s : standing c past ≡ Some r = ap (λ (x : AttemptState). if is_routed x then last_routing c past else None) e ∙ l in
      ap (λ (o : Option Routing). option_map_or (λ q. (q.site == r.site) && p q.want) o false) s ∙ and_from _ _ (eq-eqb r.site r.site refl) w

  -- what is due by the Route
  by_route : (site : ℕ) (choice : Choice) (r : Routing) (s : Said) → state c past ≡ stands.Routed site choice → last_routing c past ≡ Some r
      → due_of layout past c r.site r.want ≡ Some s
      → may_say layout past c s ≡ true
  by_route site choice r s e l h = by_want r.want refl h
    where
      placed : (part : ℕ) (epochs : List ℕ) → r.want ≡ want.Place part → settled_epochs layout past c part r.site ≡ epochs
          → option_map (said.Placed part r.site) (slice_get epochs 0) ≡ Some s
          → may_say layout past c s ≡ true
      placed part [] w q g = absurd (cc (g))
      placed part (epoch ∷ more) w q g =
          let same : said.Placed part r.site epoch ≡ s = cc (g) in
          subst (λ (x : Said). may_say layout past c x ≡ true) same
          (and_from _ _ (routed_for site choice r (wants_place part) e l (ap (wants_place part) w ∙ eq-eqb part part refl))
          (ap (λ (xs : List ℕ). is_among xs epoch) q ∙ or_left (epoch == epoch) _ (eq-eqb epoch epoch refl)))

      restarted : (b : Bool) → r.want ≡ want.Restart → restarted_since c r.site past ≡ b → (if b then Some (said.Restarted r.site) else None) ≡ Some s
          → may_say layout past c s ≡ true
      restarted true w q g =
          let same : said.Restarted r.site ≡ s = cc (g) in
          subst (λ (x : Said). may_say layout past c x ≡ true) same (and_from _ _ (routed_for site choice r wants_restart e l (ap wants_restart w)) q)
      restarted false w q g = absurd (cc (g))

      by_want : (w : Want) → r.want ≡ w → due_of layout past c r.site w ≡ Some s → may_say layout past c s ≡ true
      by_want (want.Txn keys) w g = absurd (cc (g))
      by_want (want.Place part) w g = placed part _ w refl g
      by_want want.Restart w g = restarted _ w refl g

  by_failure : (w : Cause) (s : Said) → state c past ≡ stands.Failed w → refused_due w ≡ Some s → may_say layout past c s ≡ true
  by_failure (Undeclared key) s e h = absurd (cc (h))
  by_failure (Log site) s e h =
      let same : said.Refused (Log site) ≡ s = cc (h) in
      subst (λ (x : Said). may_say layout past c x ≡ true) same (ap (λ (x : AttemptState). has_failed x (Log site)) e ∙ same_cause-own (Log site))
  by_failure (Damage site place read written) s e h =
      let same : said.Refused (Damage site place read written) ≡ s = cc (h) in
      subst (λ (x : Said). may_say layout past c x ≡ true) same (ap (λ (x : AttemptState). has_failed x (Damage site place read written)) e ∙ same_cause-own
      (Damage site place read written))
  by_failure Memory s e h =
      let same : said.Refused Memory ≡ s = cc (h) in
      subst (λ (x : Said). may_say layout past c x ≡ true) same (ap may_give_up e)

  by_state : (st : AttemptState) (o : Option Routing) (s : Said) → state c past ≡ st → last_routing c past ≡ o
      → due_in st (option_and_then (λ r. due_of layout past c r.site r.want) o) ≡ Some s
      → may_say layout past c s ≡ true
  by_state (stands.Routed site choice) None s e l h = absurd (cc (h))
  by_state (stands.Routed site choice) (Some r) s e l h = by_route site choice r s e l h
  by_state (stands.Committed site seq) o s e l h =
      let same : said.Committed site seq ≡ s = cc (h) in
      subst (λ (x : Said). may_say layout past c x ≡ true) same (ap (λ (x : AttemptState). is_committed x site seq) e ∙ and_from _ _ (eq-eqb site site refl)
      (eq-eqb seq seq refl))
  by_state (stands.Ended site) o s e l h =
      let same : said.Read site ≡ s = cc (h) in
      subst (λ (x : Said). may_say layout past c x ≡ true) same (ap (λ (x : AttemptState). is_ended x site) e ∙ eq-eqb site site refl)
  by_state (stands.Doubted site) o s e l h =
      let same : said.InDoubt site ≡ s = cc (h) in
      subst (λ (x : Said). may_say layout past c x ≡ true) same (ap (λ (x : AttemptState). is_doubted x site) e ∙ eq-eqb site site refl)
  by_state (stands.Failed w) o s e l h = by_failure w s e h
  by_state stands.Unrouted o s e l h = absurd (cc (h))
  by_state stands.Moved o s e l h = absurd (cc (h))
  by_state (stands.Running site) o s e l h = absurd (cc (h))
  by_state stands.Dropped o s e l h = absurd (cc (h))

  pub due_allowed : (s : Said) → said_due layout past c ≡ Some s → may_say layout past c s ≡ true
  due_allowed s h = by_state (state c past) (last_routing c past) s refl refl h

-- ---- something is due

committed_due : (st : AttemptState) (by_route : Option Said) (site seq : ℕ) → is_committed st site seq ≡ true → is_some (due_in st by_route) ≡ true
committed_due (stands.Committed i n) by_route site seq h = refl
committed_due other by_route site seq h = absurd (false≢true h)

ended_due : (st : AttemptState) (by_route : Option Said) (site : ℕ) → is_ended st site ≡ true → is_some (due_in st by_route) ≡ true
ended_due (stands.Ended i) by_route site h = refl
ended_due other by_route site h = absurd (false≢true h)

doubted_due : (st : AttemptState) (by_route : Option Said) (site : ℕ) → is_doubted st site ≡ true → is_some (due_in st by_route) ≡ true
doubted_due (stands.Doubted i) by_route site h = refl
doubted_due other by_route site h = absurd (false≢true h)

declared_due : (why : Cause) → ((key : ℕ) → same_cause (Undeclared key) why ≡ false) → (w : Cause) → same_cause w why ≡ true → is_some (refused_due w) ≡ true
declared_due why n (Undeclared key) h = absurd (false≢true (sym (n key) ∙ h))
declared_due why n other h = refl

failed_due : (why : Cause) → ((key : ℕ) → same_cause (Undeclared key) why ≡ false) → (st : AttemptState) (by_route : Option Said) → has_failed st why ≡ true
    → is_some (due_in st by_route) ≡ true
failed_due why n (stands.Failed w) by_route h = declared_due why n w h
failed_due why n other by_route h = absurd (false≢true h)

routed_due : (st : AttemptState) (by_route : Option Said) → is_routed st ≡ true → due_in st by_route ≡ by_route
routed_due (stands.Routed site choice) by_route h = refl
routed_due other by_route h = absurd (false≢true h)

is_place : (part : ℕ) (w : Want) → wants_place part w ≡ true → w ≡ want.Place part
is_place part (want.Place p) h = ap (λ (x : ℕ). want.Place x) (eqb-true p part h)
is_place part other h = absurd (false≢true h)

is_restarting : (w : Want) → wants_restart w ≡ true → w ≡ want.Restart
is_restarting want.Restart h = refl
is_restarting other h = absurd (false≢true h)

some_first : (xs : List ℕ) (x : ℕ) → is_among xs x ≡ true → is_some (slice_get xs 0) ≡ true
some_first [] x h = absurd (false≢true h)
some_first (y ∷ ys) x h = refl

map_some : {X Y : Type 0} (f : X → Y) (o : Option X) → is_some o ≡ true → is_some (option_map f o) ≡ true
map_some f None h = h
map_some f (Some x) h = refl

module _ (layout : Layout) (past : List Step) (c : ℕ) where
  -- the session stands routed by its last Route, which is to the site and wants what passes
  record RoutedFor (site : ℕ) (p : Want → Bool) : Type 0 where
    route : Routing
    stands : is_routed (state c past) ≡ true
    last : last_routing c past ≡ Some route
    at_site : route.site ≡ site
    passes : p route.want ≡ true

  stands_routed : (site : ℕ) (p : Want → Bool) → is_routed_for c site p past ≡ true → RoutedFor site p
  stands_routed site p h = by (is_routed (state c past)) (last_routing c past) refl refl h
    where
      by : (b : Bool) (o : Option Routing) → is_routed (state c past) ≡ b → last_routing c past ≡ o
          → option_map_or (λ r. (r.site == site) && p r.want) (if b then o else None) false ≡ true
          → RoutedFor site p
      by true None e l g = absurd (false≢true g)
      by true (Some r) e l g = (let q = and_parts (r.site == site) (p r.want) g in
          record { route = r; stands = e; last = l; at_site = eqb-true r.site site q.0; passes = q.1 })
      by false o e l g = absurd (false≢true g)

  -- what is due by the Route is due
  route_due : (site : ℕ) (p : Want → Bool) (w : Want) (r : RoutedFor site p) → r.route.want ≡ w → is_some (due_of layout past c site w) ≡ true
      → is_some (said_due layout past c) ≡ true
  route_due site p w r v d =
      ap is_some (routed_due (state c past) _ r.stands
      ∙ ap (λ (o : Option Routing). option_and_then (λ q. due_of layout past c q.site q.want) o) r.last
      ∙ ap (λ (i : ℕ). due_of layout past c i r.route.want) r.at_site
      ∙ ap (λ (x : Want). due_of layout past c site x) v)
      ∙ d

  pub due_given : (s : Said) → may_say layout past c s ≡ true → s ≢ said.Refused Memory → ((key : ℕ) → s ≢ said.Refused (Undeclared key))
      → is_some (said_due layout past c) ≡ true
  due_given (said.Committed site seq) h m u = committed_due (state c past) _ site seq h
  due_given (said.Read site) h m u = ended_due (state c past) _ site h
  due_given (said.InDoubt site) h m u = doubted_due (state c past) _ site h
  due_given (said.Placed part site epoch) h m u =
      let p = and_parts (is_routed_for c site (wants_place part) past) (is_among (settled_epochs layout past c part site) epoch) h in
      let r = stands_routed site (wants_place part) p.0 in
      route_due site (wants_place part) (want.Place part) r (is_place part r.route.want r.passes)
      (map_some (said.Placed part site) (slice_get (settled_epochs layout past c part site) 0) (some_first (settled_epochs layout past c part site) epoch p.1))
  due_given (said.Restarted site) h m u =
      let p = and_parts (is_routed_for c site wants_restart past) (restarted_since c site past) h in
      let r = stands_routed site wants_restart p.0 in
      route_due site wants_restart want.Restart r (is_restarting r.route.want r.passes)
      (ap (λ (b : Bool). is_some (if b then Some (said.Restarted site) else None)) p.1)
  due_given (said.Refused (Undeclared key)) h m u = absurd (u key refl)
  due_given (said.Refused (Log site)) h m u = failed_due (Log site) (λ key. refl) (state c past) _ h
  due_given (said.Refused (Damage site place read written)) h m u = failed_due (Damage site place read written) (λ key. refl) (state c past) _ h
  due_given (said.Refused Memory) h m u = absurd (m refl)
