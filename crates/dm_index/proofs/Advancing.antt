-- The places after one step more.
use Rattle.std.proofs.Common.{ℕ, ◌+◌, ◌≡◌, List, [], ◌∷◌, ◌++◌, Option, length, sym, ap, ◌∙◌, subst}
use Rattle.std.specs.Prelude.{option_map, reverse, slice_get}
use Rattle.dm_event.specs.Layout.{Layout}
use Rattle.dm_event.specs.declared.limits.TheConstants.{MAX_SESSIONS}
use Rattle.dm_event.specs.declared.step.Pending.{Pending}
use Rattle.dm_event.specs.declared.step.Step.{Step}
use Rattle.dm_index.proofs.EntriesNext.{entries_next}
use Rattle.dm_index.proofs.Marking.{routes_next, doubts_next}
use Rattle.dm_index.specs.Places.{Places, ArePlaces, AreEntries, told_route, told_doubt, entry_place, with_place}
use Rattle.dm_model.proofs.Judged.{shape_of}
use Rattle.dm_model.specs.Allowed.{Allowed}
use Rattle.dm_model.specs.Legal.{LegalPast}
use Rattle.dm_steps.specs.Pendings.{kept_of, entry_by}

-- each list is brought up to date
pub record Advanced (old new : Places) (s : Step) (kept : Option Pending) (place : ℕ) : Type 0 where
  pub sessions : length new.routes ≡ length old.routes
  pub sites : length new.doubts ≡ length old.doubts
  pub routes : (k : ℕ) → slice_get new.routes k ≡ option_map (told_route (k + 1) s place) (slice_get old.routes k)
  pub doubts : (k : ℕ) → slice_get new.doubts k ≡ option_map (told_doubt (k + 1) s place) (slice_get old.doubts k)
  pub entries : new.entries ≡ with_place old.entries (entry_by s kept) (entry_place old.doubts s place)

pub advanced : (layout : Layout) (steps : List Step) (s : Step) → LegalPast layout (reverse steps) → Allowed layout (reverse steps) s → (old new : Places)
    → (kept : Option Pending) → kept ≡ kept_of s (reverse steps) → (place : ℕ) → place ≡ length steps → Advanced old new s kept place
    → ArePlaces layout steps old → ArePlaces layout (steps ++ s ∷ []) new
advanced layout steps s legal allowed old new kept k place here up are =
    let shaped = shape_of layout (reverse steps) s allowed in
    record {
      sessions = up.sessions ∙ are.sessions;
      sites = up.sites ∙ are.sites;
      routes = routes_next layout steps s shaped old.routes new.routes MAX_SESSIONS are.sessions (λ c outside. outside)
          (λ i. up.routes i ∙ ap (λ (p : ℕ). option_map (told_route (i + 1) s p) (slice_get old.routes i)) here) are.routes;
      doubts = doubts_next layout steps s shaped old.doubts new.doubts layout.sites are.sites (λ i outside. outside)
          (λ i. up.doubts i ∙ ap (λ (p : ℕ). option_map (told_doubt (i + 1) s p) (slice_get old.doubts i)) here) are.doubts;
      entries = subst (λ (lists : List (List ℕ)). AreEntries layout (steps ++ s ∷ []) lists)
          (sym (up.entries ∙ ap (λ (o : Option Pending). with_place old.entries (entry_by s o) (entry_place old.doubts s place)) k
          ∙ ap (λ (p : ℕ). with_place old.entries (entry_by s (kept_of s (reverse steps))) (entry_place old.doubts s p)) here))
          (entries_next layout steps legal old.entries are.entries old.doubts are.doubts s allowed);
    }
