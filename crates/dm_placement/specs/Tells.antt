-- A window, homes and vectors as code has them, and the history of which they tell.
use Rattle.std.specs.Prelude.{ℕ, ◌≡◌, ◌<◌, ◌≤◌, List, length, reverse}
use Rattle.dm_event.specs.Layout.{Layout}
use Rattle.dm_event.specs.declared.step.Step.{Step}
use Rattle.dm_model.specs.Choices.{window as window_of, home}
use Rattle.dm_model.specs.Progress.{site_vector}
use Rattle.dm_placement.specs.Scored.{home_in, vector_in}

-- the window, of which the oldest set comes first, the homes and the vectors are those after the steps so far
pub record Tells (layout : Layout) (past : List Step) (window : List (List ℕ)) (homes : List ℕ) (vectors : List (List ℕ)) : Type 0 where
  pub sets : window ≡ reverse (window_of layout past)
  pub parts : length homes ≡ length layout.masters
  pub home_of : (p : ℕ) → p < length layout.masters → home_in homes p ≡ home layout past p
  pub sites : length vectors ≡ layout.sites
  pub vector_of : (site : ℕ) → 1 ≤ site → site ≤ layout.sites → vector_in vectors site ≡ site_vector layout.sites past site
