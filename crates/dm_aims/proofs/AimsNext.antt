-- What the sessions' last Routes have come to, after one step more.
use Rattle.std.proofs.Common.{ℕ, ◌+◌, ◌≡◌, ◌==◌, Bool, true, false, if◌then◌else◌, List, [], ◌∷◌, Option, Some, None, length, refl, sym, ap, ◌∙◌, subst, unwrap_or}
use Rattle.std.specs.Option.{option_or}
use Rattle.std.specs.Prelude.{◌||◌, is_some, option_and_then, option_map, slice_get}
use Rattle.dm_event.specs.Layout.{Layout, is_between}
use Rattle.dm_event.specs.declared.placing.Placing.{Placing}
use Rattle.dm_event.specs.declared.step.Step.{Step}
use Rattle.dm_event.specs.declared.step.Step.TheVariants.{Route}
use Rattle.dm_event.specs.declared.step.TxnId.{TxnId}
use Rattle.dm_model.specs.Attempts.{Routing, routing_of, last_routing, is_route}
use Rattle.dm_model.specs.Outcomes.{settled_epoch, restarted_since}
use Rattle.dm_model.specs.Placings.{placing}
use Rattle.dm_model.specs.Progress.{is_restart}
use Rattle.dm_model.specs.Shape.{is_shaped}
use Rattle.dm_state.specs.Standings.{Standings, placing_in, AreStates}
use Rattle.dm_event.specs.declared.limits.TheConstants.{MAX_SESSIONS}
use Rattle.dm_aims.proofs.Routes.{flat, route_is, foreign_route}
use Rattle.dm_aims.specs.Aiming.{wanted_part, first_aim, aim_after, next_aim, aim_by, aim_of, aim_in, AreAims}
use Rattle.dm_aims.specs.declared.aim.Aim.{Aim}
use Rattle.dm_steps.proofs.Outcomes.{settled_next, restarted_next}
use Rattle.dm_steps.specs.Next.{last_settled}
use Rattle.dm_steps.proofs.Slots.{numbered_next}
use Rattle.dm_steps.specs.Slots.{numbered_in}

none_or : (o : Option ℕ) → option_or o None ≡ o
none_or None = refl
none_or (Some x) = refl

module _ (layout : Layout) (past : List Step) (s : Step) (c : ℕ) where
  now : ℕ → Placing
  now p = placing layout (s ∷ past) p

  at_route : is_route c s ≡ true → (r : Routing) → aim_by layout (s ∷ past) c r ≡ first_aim (λ p. placing layout (s ∷ past) p) r
  at_route e r = λ i. record { site = r.site; part = wanted_part r.want; settled = settled (wanted_part r.want) i; restarted = (restarted_next c r.site s past ∙ ap (λ (b : Bool). if b then false else (is_restart r.site s || restarted_since c r.site past)) e) i }
    where
      settled : (o : Option ℕ) → option_and_then (λ p. last_settled layout (s ∷ past) c p r.site) o ≡ option_and_then (λ p. settled_epoch r.site (placing layout (s ∷ past) p)) o
      settled None = refl
      settled (Some p) =
          settled_next layout c p r.site s past ∙ ap (λ (b : Bool). option_or (settled_epoch r.site (placing layout (s ∷ past) p)) (if b then None else last_settled layout past c p r.site)) e
          ∙ none_or (settled_epoch r.site (placing layout (s ∷ past) p))

  later : is_route c s ≡ false → (r : Routing) → aim_by layout (s ∷ past) c r ≡ aim_after (λ p. placing layout (s ∷ past) p) s (aim_by layout past c r)
  later e r = λ i. record { site = r.site; part = wanted_part r.want; settled = settled (wanted_part r.want) i; restarted = (restarted_next c r.site s past ∙ ap (λ (b : Bool). if b then false else (is_restart r.site s || restarted_since c r.site past)) e) i }
    where
      settled : (o : Option ℕ) → option_and_then (λ p. last_settled layout (s ∷ past) c p r.site) o
          ≡ option_or (option_and_then (λ p. settled_epoch r.site (placing layout (s ∷ past) p)) o) (option_and_then (λ p. last_settled layout past c p r.site) o)
      settled None = refl
      settled (Some p) =
          settled_next layout c p r.site s past ∙ ap (λ (b : Bool). option_or (settled_epoch r.site (placing layout (s ∷ past) p)) (if b then None else last_settled layout past c p r.site)) e

  pub aim_next : aim_of layout (s ∷ past) c ≡ next_aim c (λ p. placing layout (s ∷ past) p) s (aim_of layout past c)
  aim_next = by (routing_of (λ (t : TxnId). t.session == c) s) refl (last_routing c past)
    where
      by : (o : Option Routing) → routing_of (λ (t : TxnId). t.session == c) s ≡ o → (l : Option Routing)
          → option_map (aim_by layout (s ∷ past) c) (option_or (routing_of (λ (t : TxnId). t.session == c) s) l)
          ≡ option_or (option_map (first_aim (λ p. placing layout (s ∷ past) p)) (routing_of (λ (t : TxnId). t.session == c) s)) (option_map (aim_after (λ p. placing layout (s ∷ past) p) s) (option_map (aim_by layout past c) l))
      by (Some r) e l =
          rw e (ap (λ (a : Aim). Some a) (at_route (route_is c s ∙ ap (λ (o : Option Routing). is_some o) e) r))
      by None e None = rw e refl
      by None e (Some r) = rw e (ap (λ (a : Aim). Some a) (later (route_is c s ∙ ap (λ (o : Option Routing). is_some o) e) r))

pub aims_next : (layout : Layout) (past : List Step) (s : Step) (after : ℕ → Placing) → ((p : ℕ) → after p ≡ placing layout (s ∷ past) p) → (n : ℕ) (old new : List (Option Aim)) → length old ≡ n
    → ((k : ℕ) → slice_get new k ≡ option_map (next_aim (k + 1) after s) (slice_get old k))
    → ((c : ℕ) → is_between 1 n c ≡ false → is_some (routing_of (λ (t : TxnId). t.session == c) s) ≡ false) → AreAims layout past old → AreAims layout (s ∷ past) new
aims_next layout past s after same n old new long each foreign are c =
    flat (numbered_in new c)
    ∙ numbered_next (λ (k : ℕ) (a : Option Aim). next_aim k after s a) None old new n long each (λ k h. none (routing_of (λ (t : TxnId). t.session == k) s) (foreign k h)) c
    ∙ ap (λ (a : Option Aim). next_aim c after s a) (sym (flat (numbered_in old c)) ∙ are c)
    ∙ ap (λ (g : ℕ → Placing). next_aim c g s (aim_of layout past c)) (λ i. λ p. same p i)
    ∙ sym (aim_next layout past s c)
  where
    none : (o : Option Routing) → is_some o ≡ false → option_or (option_map (first_aim after) o) None ≡ None
    none None h = refl
    none (Some r) h = absurd (cc (h))

-- the aims that the code keeps are the next ones
pub aims_follow : (step : Step) (states : Standings) (old new : List (Option Aim)) → length old ≡ MAX_SESSIONS
    → ((k : ℕ) → slice_get new k ≡ option_map (next_aim (k + 1) (placing_in states) step) (slice_get old k))
    → (layout : Layout) (past : List Step) → is_shaped layout step ≡ true → AreStates layout (step ∷ past) states
    → AreAims layout past old → AreAims layout (step ∷ past) new
aims_follow step states old new long each layout past shaped are =
    aims_next layout past step (placing_in states) are.placing_of MAX_SESSIONS old new long each (λ c h. foreign_route layout c h step shaped)
