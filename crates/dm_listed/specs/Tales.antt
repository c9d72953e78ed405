-- What a list of steps tells.
use Rattle.std.specs.Prelude.{List}
use Rattle.dm_event.specs.Layout.{Layout}
use Rattle.dm_event.specs.declared.step.Step.{Step}

-- what the schema says, and the steps so far, the latest first
pub record Tale : Type 0 where
  pub layout : Layout
  pub past : List Step
