-- For how many further steps a history keeps room: for all that is under way to come to its end.
use Rattle.std.specs.List.{range_with_len, sum_by}
use Rattle.std.specs.Prelude.{ℕ, ◌+◌, ◌-◌, ◌==◌, Bool, if◌then◌else◌, List, ◌∷◌, Option, Some, None, length, unwrap_or}
use Rattle.dm_event.specs.Layout.{Layout}
use Rattle.dm_event.specs.Vectors.{sites_to}
use Rattle.dm_event.specs.declared.attempt.AttemptState.{AttemptState}
use Rattle.dm_event.specs.declared.attempt.AttemptState.TheVariants.{Routed, Running}
use Rattle.dm_event.specs.declared.limits.TheConstants.{MAX_SESSIONS}
use Rattle.dm_event.specs.declared.placing.Placing.{Placing}
use Rattle.dm_event.specs.declared.placing.Placing.TheVariants.{Settled, Asked, Between, Granted}
use Rattle.dm_event.specs.declared.step.Pending.{Pending}
use Rattle.dm_event.specs.declared.step.Pending.TheVariants as pending
use Rattle.dm_event.specs.declared.step.Step.{Step}
use Rattle.dm_event.specs.declared.step.Step.TheVariants.{Route, Reply, Ask, Begin, Refresh, Doubt, Restart}
use Rattle.dm_model.specs.Attempts.{replies, state}
use Rattle.dm_model.specs.Doubts.{is_down}
use Rattle.dm_model.specs.Placings.{placing}
use Rattle.dm_steps.specs.Slots.{numbered_in}

-- an attempt that is routed or running has its end to come
abbrev pub live : AttemptState → ℕ
live (Routed site choice) = 1
live (Running site) = 1
live other = 0

-- how many steps a hand-over has still to come
abbrev pub owed : Placing → ℕ
owed (Settled site epoch) = 0
owed (Asked site epoch to) = 3
owed (Between site epoch to vector) = 2
owed (Granted site epoch) = 1

-- a site that is up may come into doubt
abbrev pub up : Bool → ℕ
up down = if down then 0 else 1

-- how many items the session has
abbrev pub items_of : List ℕ → ℕ → ℕ
items_of items session = unwrap_or (numbered_in items session) 0

-- how many of them aren't answered
abbrev pub unanswered : List ℕ → List Step → ℕ → ℕ
unanswered items past session = items_of items session - replies session past

-- ---- of all sessions, sites and partitions

abbrev pub unanswered_items : List ℕ → List Step → ℕ
unanswered_items items past = sum_by (λ session. unanswered items past session) (range_with_len 1 MAX_SESSIONS)

abbrev pub live_attempts : List Step → ℕ
live_attempts past = sum_by (λ session. live (state session past)) (range_with_len 1 MAX_SESSIONS)

abbrev pub sites_up : Layout → List Step → ℕ
sites_up layout past = sum_by (λ site. up (is_down site past)) (sites_to layout.sites)

abbrev pub steps_owed : Layout → List Step → ℕ
steps_owed layout past = sum_by (λ part. owed (placing layout past part)) (range_with_len 0 (length layout.masters))

-- the number of unanswered items, of attempts that are routed or running, of sites that are up, and of the steps that
-- hand-overs have still to come
abbrev pub kept : Layout → List ℕ → List Step → ℕ
kept layout items past = unanswered_items items past + live_attempts past + sites_up layout past + steps_owed layout past

-- the room that the step needs beside what is kept
abbrev pub need : Layout → List ℕ → List Step → Step → ℕ
need layout items past step = 1 + kept layout items (step ∷ past) - kept layout items past

-- ---- one step more

abbrev pub runs_there : ℕ → AttemptState → ℕ
runs_there i (Running site) = if site == i then 1 else 0
runs_there i other = 0

-- how many sessions have an attempt that runs at the site
abbrev pub runners : ℕ → List Step → ℕ
runners site past = sum_by (λ session. runs_there site (state session past)) (range_with_len 1 MAX_SESSIONS)

-- a release or a grant that is kept brings its hand-over on
abbrev pub brought_on : Option Pending → ℕ
brought_on (Some (pending.Release part epoch to vector)) = 1
brought_on (Some (pending.Grant part epoch vector)) = 1
brought_on (Some (pending.Commit entry)) = 0
brought_on None = 0

-- what a step adds to what is kept: a Route an attempt, an Ask a hand-over, and a Restart a site, if it was down
abbrev pub comes_on : Step → (ℕ → Bool) → ℕ
comes_on (Route txn want least site choice) down = 1
comes_on (Ask part epoch to txn) down = 3
comes_on (Restart site vector found) down = if down site then 1 else 0
comes_on step down = 0

-- what it takes from it, where it is told how many items of a session are left and how its attempt stands, how many run at a
-- site, and which pending step is kept: a Reply the item and the attempt, a Doubt and a Restart what they drop, and a step of an
-- attempt or of a hand-over its own place
abbrev pub comes_off : Step → (ℕ → ℕ) → (ℕ → AttemptState) → (ℕ → ℕ) → Option Pending → ℕ
comes_off (Reply session number said) left now running step_kept = (if left session == 0 then 0 else 1) + live (now session)
comes_off (Doubt site left_open) left now running step_kept = 1 + running site
comes_off (Restart site vector found) left now running step_kept = running site + brought_on step_kept
comes_off (Route txn want least site choice) left now running step_kept = 0
comes_off (Ask part epoch to txn) left now running step_kept = 0
comes_off (Begin site txn begin) left now running step_kept = 0
comes_off (Refresh site origin) left now running step_kept = 0
comes_off step left now running step_kept = 1
