-- What is looked for where a step is judged.
use Rattle.std.specs.Prelude.{ℕ, ◌/◌, not, if◌then◌else◌, List, Option, Some, None}
use Rattle.dm_event.specs.declared.placing.Placing.{Placing}
use Rattle.dm_event.specs.declared.placing.Placing.TheVariants.{Settled, Asked, Between, Granted}
use Rattle.dm_event.specs.declared.step.Step.{Step}
use Rattle.dm_event.specs.Layout.{Layout}
use Rattle.dm_model.specs.Placings.{placing, may_begin_now}

-- the key's partition, where the site may not begin on it
abbrev pub away : Layout → List Step → ℕ → ℕ → Option ℕ
away layout past site key = if not (may_begin_now (placing layout past (key / layout.width)) site) then Some (key / layout.width) else None

-- the epoch under which the partition is, or was until its release, mastered
abbrev pub epoch_now : Placing → ℕ
epoch_now (Settled site epoch) = epoch
epoch_now (Asked site epoch to) = epoch
epoch_now (Between site epoch to vector) = epoch
epoch_now (Granted site epoch) = epoch
