-- The book as a law of chronicles.
use Rattle.std.specs.Prelude.{ℕ, List, reverse}
use Rattle.dm_event.specs.Layout.{Layout}
use Rattle.dm_event.specs.declared.step.Step.{Step}
use Rattle.dm_model.specs.Allowed.{Allowed}

-- what no step changes: what the schema says, and the number of items of each session
pub record Terms : Type 0 where
  pub layout : Layout
  pub items : List ℕ

-- the step is allowed after the list, which has the earliest step first
abbrev pub may_follow : Terms → List Step → Step → Type 0
may_follow terms steps step = Allowed terms.layout (reverse steps) step
