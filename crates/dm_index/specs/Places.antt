-- Places of steps in the list of steps, which has the earliest first, at place 0.
use Rattle.std.specs.Option.{option_flatten}
use Rattle.std.specs.Prelude.{ℕ, ◌<◌, ◌+◌, ◌-◌, ◌≡◌, ◌==◌, ◌++◌, ◌∷◌, if◌then◌else◌, true, List, [], Option, Some, None, length, reverse}
use Rattle.std.specs.Prelude.{unwrap_or, option_and_then, slice_get, slice_set}
use Rattle.dm_event.specs.Layout.{Layout, is_site}
use Rattle.dm_event.specs.declared.limits.TheConstants.{MAX_SESSIONS}
use Rattle.dm_event.specs.declared.step.Entry.{Entry}
use Rattle.dm_event.specs.declared.step.Pending.TheVariants as pending
use Rattle.dm_event.specs.declared.step.Step.{Step}
use Rattle.dm_event.specs.declared.step.Step.TheVariants.{Route, Commit, Doubt, Restart}
use Rattle.dm_model.specs.Acts.{entry_at}
use Rattle.dm_model.specs.Attempts.{last_routing, routing_of}
use Rattle.dm_model.specs.Doubts.{doubt_at, pending_at}
use Rattle.dm_model.specs.Progress.{entry_count}
use Rattle.dm_steps.specs.Slots.{numbered_in}

-- ---- the last Routes and Doubts

-- the place that is marked of a session or a site
abbrev pub marked_in : List (Option ℕ) → ℕ → Option ℕ
marked_in marks number = option_flatten (numbered_in marks number)

-- the mark of a session after a step at the place
abbrev pub told_route : ℕ → Step → ℕ → Option ℕ → Option ℕ
told_route c (Route txn want min site choice) place before = if txn.session == c then Some place else before
told_route c s place before = before

-- the mark of a site after a step at the place
abbrev pub told_doubt : ℕ → Step → ℕ → Option ℕ → Option ℕ
told_doubt i (Doubt site p) place before = if site == i then Some place else before
told_doubt i s place before = before

-- of each number, the latest step of which the function gives something stands at its mark
pub record AreMarks {X : Type 0} (f : ℕ → Step → Option X) (steps : List Step) (marks : List (Option ℕ)) (latest_of : ℕ → Option X) : Type 0 where
  pub found : (number : ℕ) → option_and_then (λ place. option_and_then (f number) (slice_get steps place)) (marked_in marks number) ≡ latest_of number
  pub below : (number place : ℕ) → marked_in marks number ≡ Some place → place < length steps

-- ---- entries

-- the entry that a step carries: a Commit's, or that of a Doubt of a commit
abbrev pub carried : Step → Option Entry
carried (Commit entry) = Some entry
carried (Doubt site (pending.Commit entry)) = Some entry
carried s = None

abbrev pub carried_at : List Step → ℕ → Option Entry
carried_at steps place = option_and_then carried (slice_get steps place)

abbrev pub places_at : List (List ℕ) → ℕ → List ℕ
places_at lists i = unwrap_or (slice_get lists i) []

abbrev pub places_of : List (List ℕ) → ℕ → List ℕ
places_of lists origin = unwrap_or (numbered_in lists origin) []

-- the place of the origin's entry with this number
abbrev pub place_in : List (List ℕ) → ℕ → ℕ → Option ℕ
place_in lists origin seq = option_and_then (λ l. numbered_in l seq) (numbered_in lists origin)

-- where the entry stands that the step adds: at the step itself, or at the Doubt whose commit a Restart keeps
abbrev pub entry_place : List (Option ℕ) → Step → ℕ → ℕ
entry_place doubts (Restart site vector found) here = unwrap_or (marked_in doubts site) here
entry_place doubts s here = here

-- the places with that of one entry more, if there is one
abbrev pub with_place : List (List ℕ) → Option Entry → ℕ → List (List ℕ)
with_place lists None place = lists
with_place lists (Some e) place = slice_set lists (e.origin - 1) (places_of lists e.origin ++ place ∷ [])

-- the entry may come next: its origin is a site, of which it has the next number
pub record IsNext (layout : Layout) (past : List Step) (e : Entry) : Type 0 where
  pub origin : is_site layout e.origin ≡ true
  pub due : e.seq ≡ entry_count e.origin past + 1

-- these are the places of the entries in the list
pub record AreEntries (layout : Layout) (steps : List Step) (lists : List (List ℕ)) : Type 0 where
  pub long : length lists ≡ layout.sites
  pub found : (origin seq : ℕ) → option_and_then (carried_at steps) (place_in lists origin seq) ≡ entry_at origin seq (reverse steps)
  pub counts : (origin : ℕ) → length (places_of lists origin) ≡ entry_count origin (reverse steps)
  pub below : (origin seq place : ℕ) → place_in lists origin seq ≡ Some place → place < length steps

-- ---- all of them

-- the place of the last Route of each session, that of session 1 first, of the last Doubt of each site, and of the entries of
-- each origin; and for how many further entries of each origin there is room
pub record Places : Type 0 where
  pub routes : List (Option ℕ)
  pub doubts : List (Option ℕ)
  pub entries : List (List ℕ)
  pub rooms : List ℕ

-- these are the places in the list of steps
pub record ArePlaces (layout : Layout) (steps : List Step) (p : Places) : Type 0 where
  pub sessions : length p.routes ≡ MAX_SESSIONS
  pub sites : length p.doubts ≡ layout.sites
  pub routes : AreMarks (λ c. routing_of (λ txn. txn.session == c)) steps p.routes (λ c. last_routing c (reverse steps))
  pub doubts : AreMarks doubt_at steps p.doubts (λ i. pending_at i (reverse steps))
  pub entries : AreEntries layout steps p.entries
