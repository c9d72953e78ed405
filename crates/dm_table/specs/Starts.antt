-- Passes of partitions, in order.
use Rattle.std.specs.Prelude.{ℕ, suc, ◌≡◌, List, [], ◌∷◌, IsTrue}
use Rattle.atomic_table.specs.Seated.{TableId}
use Rattle.dm_event.specs.Layout.{Layout, is_part}
use Rattle.dm_event.specs.declared.actor.Actor.TheVariants.{Partition}
use Rattle.dm_invariant.specs.Stations.{View, layout_of}

-- the partition's pass
abbrev pub IsPassOfPart : TableId → ℕ → View → Type 0
IsPassOfPart table part pass = (pass.table ≡ table) × (pass.actors ≡ Partition part ∷ [])

-- the partition's pass, which has seen no step
pub record IsNew (table : TableId) (layout : Layout) (part : ℕ) (pass : View) : Type 0 where
  pub own : IsPassOfPart table part pass
  pub layout_is : layout_of pass ≡ layout
  pub there : IsTrue (is_part layout part)
  pub empty : pass.seen ≡ []

-- those of the partitions from this one on
abbrev pub AreNew : TableId → Layout → ℕ → List View → Type 0
AreNew table layout part [] = Unit {0}
AreNew table layout part (pass ∷ passes) = IsNew table layout part pass × AreNew table layout (suc part) passes

abbrev pub ArePasses : TableId → ℕ → List View → Type 0
ArePasses table part [] = Unit {0}
ArePasses table part (pass ∷ passes) = IsPassOfPart table part pass × ArePasses table (suc part) passes
