-- What is seen of a history with what is kept of it: the layout, the number of items of each session, the steps, and what there is
-- room for: further steps, attempts that begin, places of each origin's transactions, and installs.
use Rattle.std.specs.Prelude.{ℕ, List, reverse}
use Rattle.dm_event.specs.Layout.{Layout}
use Rattle.dm_event.specs.declared.step.Step.{Step}

pub record Ledger : Type 0 where
  pub layout : Layout
  pub items : List ℕ
  pub steps : List Step
  pub room : ℕ
  pub begins : ℕ
  pub places : List ℕ
  pub installs : ℕ
  pub known : List ℕ

-- the steps so far, the latest first
abbrev pub past : Ledger → List Step
past kept = reverse kept.steps
