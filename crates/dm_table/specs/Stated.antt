-- What a partition's own steps, its Asks and Settles, state of it.
use Rattle.std.specs.Prelude.{ℕ, ◌==◌, if◌then◌else◌, List, [], ◌∷◌, Option, Some, None, slice_index, unwrap_or}
use Rattle.dm_event.specs.Layout.{Layout}
use Rattle.dm_event.specs.declared.step.Step.{Step}
use Rattle.dm_event.specs.declared.step.Step.TheVariants.{Ask, Settle}

-- the site and the epoch of the last Settle, and the site that was asked for since then
pub record Stated : Type 0 where
  pub site : ℕ
  pub epoch : ℕ
  pub asked : Option ℕ

abbrev pub stated_by : ℕ → Step → Stated → Stated
stated_by p (Ask part epoch to txn) so_far = if part == p then record { site = so_far.site; epoch = so_far.epoch; asked = Some to } else so_far
stated_by p (Settle part epoch) so_far =
    if part == p then record { site = unwrap_or so_far.asked so_far.site; epoch = epoch; asked = None } else so_far
stated_by p step so_far = so_far

-- before them the opening master has it, under epoch 0
abbrev pub stated : Layout → List Step → ℕ → Stated
stated layout [] part = record { site = slice_index layout.masters part; epoch = 0; asked = None }
stated layout (step ∷ past) part = stated_by part step (stated layout past part)
