-- What a session may be answered, and what is due.
use Rattle.std.specs.List.{list_any}
use Rattle.std.specs.Option.{option_map_or}
use Rattle.std.specs.Prelude.{ℕ, Bool, true, false, ◌==◌, ◌&&◌, if◌then◌else◌, List, [], ◌∷◌, Option, Some, None, option_map, option_and_then, filter_map}
use Rattle.std.specs.Prelude.{slice_get}
use Rattle.dm_event.specs.Layout.{Layout}
use Rattle.dm_event.specs.declared.attempt.AttemptState.{AttemptState}
use Rattle.dm_event.specs.declared.attempt.AttemptState.TheVariants as stands
use Rattle.dm_event.specs.declared.placing.Placing.{Placing}
use Rattle.dm_event.specs.declared.placing.Placing.TheVariants.{Settled, Asked, Between, Granted}
use Rattle.dm_event.specs.declared.step.Cause.{Cause}
use Rattle.dm_event.specs.declared.step.Cause.TheVariants.{Undeclared, Log, Damage, Memory}
use Rattle.dm_event.specs.declared.step.Said.{Said}
use Rattle.dm_event.specs.declared.step.Said.TheVariants as said
use Rattle.dm_event.specs.declared.step.Step.{Step}
use Rattle.dm_event.specs.declared.step.Want.{Want}
use Rattle.dm_event.specs.declared.step.Want.TheVariants as want
use Rattle.dm_model.specs.Attempts.{is_route, state, last_routing, standing}
use Rattle.dm_model.specs.Placings.{placing}
use Rattle.dm_model.specs.Progress.{is_restart}
use Rattle.dm_model.specs.Tests.{is_among, same_cause}
use Rattle.dm_model.specs.Words.{since}

-- ---- what a Route for a partition or a site has come to

-- the placings of the partition at the session's last Route and after each later step, the latest first
abbrev pub placings_since : Layout → List Step → ℕ → ℕ → List Placing
placings_since layout [] session part = []
placings_since layout (step ∷ past) session part =
    placing layout (step ∷ past) part ∷ (if is_route session step then [] else placings_since layout past session part)

abbrev pub settled_epoch : ℕ → Placing → Option ℕ
settled_epoch site (Settled i epoch) = if i == site then Some epoch else None
settled_epoch site (Asked i epoch to) = None
settled_epoch site (Between i epoch to vector) = None
settled_epoch site (Granted i epoch) = None

-- the epochs under which the partition stood settled at the site, from the session's last Route on, the last first
abbrev pub settled_epochs : Layout → List Step → ℕ → ℕ → ℕ → List ℕ
settled_epochs layout past session part site = filter_map (settled_epoch site) (placings_since layout past session part)

-- the site was restarted after the session's last Route
abbrev pub restarted_since : ℕ → ℕ → List Step → Bool
restarted_since session site past = list_any (is_restart site) (since (is_route session) past)

-- ---- the outcomes allowed

abbrev pub is_committed : AttemptState → ℕ → ℕ → Bool
is_committed (stands.Committed i n) site seq = (i == site) && (n == seq)
is_committed other site seq = false

abbrev pub is_ended : AttemptState → ℕ → Bool
is_ended (stands.Ended i) site = i == site
is_ended other site = false

abbrev pub is_doubted : AttemptState → ℕ → Bool
is_doubted (stands.Doubted i) site = i == site
is_doubted other site = false

abbrev pub is_unrouted : AttemptState → Bool
is_unrouted stands.Unrouted = true
is_unrouted other = false

abbrev pub has_failed : AttemptState → Cause → Bool
has_failed (stands.Failed why) cause = same_cause why cause
has_failed other cause = false

-- want of memory may be answered: nothing runs and nothing came of the item, or its attempt failed for memory
abbrev pub may_give_up : AttemptState → Bool
may_give_up stands.Unrouted = true
may_give_up (stands.Routed site choice) = true
may_give_up stands.Moved = true
may_give_up stands.Dropped = true
may_give_up other = has_failed other Memory

abbrev pub may_refuse : AttemptState → Cause → Bool
may_refuse now (Undeclared key) = is_unrouted now
may_refuse now (Log site) = has_failed now (Log site)
may_refuse now (Damage site place read written) = has_failed now (Damage site place read written)
may_refuse now Memory = may_give_up now

abbrev pub wants_place : ℕ → Want → Bool
wants_place part (want.Place p) = p == part
wants_place part (want.Txn keys) = false
wants_place part want.Restart = false

abbrev pub wants_restart : Want → Bool
wants_restart want.Restart = true
wants_restart (want.Txn keys) = false
wants_restart (want.Place part) = false

-- the session stands routed to the site for a want that passes
abbrev pub is_routed_for : ℕ → ℕ → (Want → Bool) → List Step → Bool
is_routed_for session site passes past = option_map_or (λ r. (r.site == site) && passes r.want) (standing session past) false

-- the outcome is allowed for the session
abbrev pub may_say : Layout → List Step → ℕ → Said → Bool
may_say layout past session (said.Committed site seq) = is_committed (state session past) site seq
may_say layout past session (said.Read site) = is_ended (state session past) site
may_say layout past session (said.InDoubt site) = is_doubted (state session past) site
may_say layout past session (said.Placed part site epoch) =
    is_routed_for session site (wants_place part) past && is_among (settled_epochs layout past session part site) epoch
may_say layout past session (said.Restarted site) = is_routed_for session site wants_restart past && restarted_since session site past
may_say layout past session (said.Refused why) = may_refuse (state session past) why

-- ---- the outcome due

-- no transaction is refused after a Route for a write that it did not declare
abbrev pub refused_due : Cause → Option Said
refused_due (Undeclared key) = None
refused_due other = Some (said.Refused other)

-- what is due by the attempt's state, where the second is due by its Route
abbrev pub due_in : AttemptState → Option Said → Option Said
due_in (stands.Routed site choice) by_route = by_route
due_in (stands.Committed site seq) by_route = Some (said.Committed site seq)
due_in (stands.Ended site) by_route = Some (said.Read site)
due_in (stands.Doubted site) by_route = Some (said.InDoubt site)
due_in (stands.Failed why) by_route = refused_due why
due_in stands.Unrouted by_route = None
due_in stands.Moved by_route = None
due_in (stands.Running site) by_route = None
due_in stands.Dropped by_route = None

-- a place is due under the last epoch, and a restart once there was one
abbrev pub due_of : Layout → List Step → ℕ → ℕ → Want → Option Said
due_of layout past session site (want.Txn keys) = None
due_of layout past session site (want.Place part) = option_map (said.Placed part site) (slice_get (settled_epochs layout past session part site) 0)
due_of layout past session site want.Restart = if restarted_since session site past then Some (said.Restarted site) else None

-- the outcome due for the session: refused for memory where its attempt failed for memory, else the one that is allowed beside
-- refusals for memory and for undeclared writes, if there is one
abbrev pub said_due : Layout → List Step → ℕ → Option Said
said_due layout past session =
    due_in (state session past) (option_and_then (λ r. due_of layout past session r.site r.want) (last_routing session past))
