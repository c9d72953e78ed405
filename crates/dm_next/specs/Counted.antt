-- Vectors that count entries which there are.
use Rattle.std.specs.Prelude.{◌≡◌, ◌≤◌, ℕ, List, length}
use Rattle.dm_event.specs.Layout.{Layout}
use Rattle.dm_event.specs.Vectors.{at}
use Rattle.dm_event.specs.declared.step.Step.{Step}
use Rattle.dm_model.specs.Progress.{entry_count}

-- the vector has a component for each site, and none is above the number of the origin's entries
pub record Counts (layout : Layout) (past : List Step) (to : List ℕ) : Type 0 where
  pub long : length to ≡ layout.sites
  pub within : (origin : ℕ) → at to origin ≤ entry_count origin past
