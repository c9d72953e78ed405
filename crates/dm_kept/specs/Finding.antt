-- What is found in the list of steps by the places that the index has.
use Rattle.std.specs.Prelude.{ℕ, ◌≡◌, ◌==◌, List, Option, option_and_then, reverse, slice_get}
use Rattle.dm_event.specs.declared.step.Step.{Step}
use Rattle.dm_index.specs.Places.{Places, carried, marked_in, place_in}
use Rattle.dm_model.specs.Acts.{entry_at}
use Rattle.dm_model.specs.Attempts.{routing_of, last_routing}
use Rattle.dm_model.specs.Doubts.{doubt_at, pending_at}

-- what the function gives of the step at the place
abbrev pub at_place : {X : Type 0} → (Step → Option X) → List Step → ℕ → Option X
at_place f steps place = option_and_then f (slice_get steps place)

-- the last Routes of the sessions, the last Doubts of the sites, and the entries are found by their places
pub record Finds (steps : List Step) (p : Places) : Type 0 where
  pub routes : (session : ℕ)
      → option_and_then (at_place (routing_of (λ txn. txn.session == session)) steps) (marked_in p.routes session) ≡ last_routing session (reverse steps)
  pub doubts : (site : ℕ) → option_and_then (at_place (doubt_at site) steps) (marked_in p.doubts site) ≡ pending_at site (reverse steps)
  pub entries : (origin seq : ℕ) → option_and_then (at_place carried steps) (place_in p.entries origin seq) ≡ entry_at origin seq (reverse steps)
