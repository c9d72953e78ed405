-- What an op answers.
use Rattle.std.specs.Prelude.{ℕ, ℤ}
use Rattle.dm_event.specs.declared.step.Op.{Op}
use Rattle.dm_event.specs.declared.step.Op.TheVariants.{Read, Write, Add}
use Rattle.dm_model.specs.Bodies.{Ran, read_value}
use Rattle.dm_body.specs.declared.overlay.OpResult.{OpResult}
use Rattle.dm_body.specs.declared.overlay.OpResult.TheVariants.{Value, Done}

-- a read answers the own write of the key, else its value by f
abbrev pub answer_of : (ℕ → ℤ) → Ran → Op → OpResult
answer_of f ran (Read key) = Value (read_value f ran key)
answer_of f ran (Write key value) = Done
answer_of f ran (Add key by) = Done
