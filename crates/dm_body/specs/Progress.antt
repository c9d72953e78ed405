-- How far a transaction's body has come.
use Rattle.std.specs.Prelude.{ℕ, ℤ, List, [], ◌∷◌, ◌++◌}
use Rattle.dm_event.specs.declared.step.Op.{Op}
use Rattle.dm_model.specs.Bodies.{Ran, after_op}

-- the ops done so far, and what they have read and written
pub record Progress : Type 0 where
  pub ops : List Op
  pub ran : Ran

-- before the first op
abbrev pub nothing_done : Progress
nothing_done = record { ops = []; ran = record { reads = []; writes = [] } }

-- one op later, where f gives the values that are not the transaction's own
abbrev pub turn : (ℕ → ℤ) → Progress → Op → Progress
turn f done op = record { ops = done.ops ++ op ∷ []; ran = after_op f done.ran op }
