-- An entry of the table as contracts see it, and what passes have seen of its partition.
use Rattle.std.specs.Prelude.{◌≡◌, ◌+◌, ℕ, List, [], ◌∷◌, Option, None, IsTrue, reverse}
use mathlib.Core.List.{IsPrefix}
use Rattle.atomic_table.specs.Seated.{TableId}
use Rattle.dm_event.specs.Layout.{is_part}
use Rattle.dm_event.specs.declared.actor.Actor.TheVariants.{Partition, Session}
use Rattle.dm_event.specs.declared.placing.Placing.{Placing}
use Rattle.dm_event.specs.declared.placing.Placing.TheVariants.{Settled, Granted}
use Rattle.dm_event.specs.declared.step.Step.{Step}
use Rattle.dm_event.specs.declared.step.Step.TheVariants.{Settle}
use Rattle.dm_event.specs.declared.step.TxnId.{TxnId}
use Rattle.dm_event.specs.declared.step.Want.{Want}
use Rattle.dm_invariant.specs.Running.{RoutedFor}
use Rattle.dm_invariant.specs.Stations.{View, Went, Rested, layout_of, own}
use Rattle.dm_model.specs.Allowed.{wants_part}
use Rattle.dm_model.specs.Placings.{placing}
use Rattle.dm_table.specs.Stated.{Stated, stated}

-- the partition, its master and epoch, the site that it is asked for, and what the partition's pass stands for
pub record Placed : Type 0 where
  pub part : ℕ
  pub site : ℕ
  pub epoch : ℕ
  pub asked : Option ℕ
  pub pass : View

abbrev pub says : Placed → Stated
says place = record { site = place.site; epoch = place.epoch; asked = place.asked }

-- The pass has exactly the partition as actor, and what the entry says is what the partition's Asks and Settles state.
pub record IsPlace (table : TableId) (place : Placed) : Type 0 where
  pub table_is : place.pass.table ≡ table
  pub actors : place.pass.actors ≡ Partition place.part ∷ []
  pub there : IsTrue (is_part (layout_of place.pass) place.part)
  pub stated_is : says place ≡ stated (layout_of place.pass) (reverse place.pass.seen) place.part

-- the same pass, which has seen no less, and no further step of its session, if it is a session's
abbrev pub Stayed : View → View → Type 0
Stayed old new = Went old new × ((session : ℕ) → old.actors ≡ Session session ∷ [] → Rested (Session session) old new)

-- the pass has seen all of the partition's own steps
abbrev pub Knows : Placed → View → Type 0
Knows place pass = IsPrefix (own (Partition place.part) place.pass.seen) (own (Partition place.part) pass.seen)

-- the partition's placing in what the pass has seen
abbrev pub placing_seen : View → ℕ → Placing
placing_seen pass part = placing (layout_of pass) (reverse pass.seen) part

abbrev pub IsSettledAt : ℕ → ℕ → ℕ → View → Type 0
IsSettledAt part site epoch pass = placing_seen pass part ≡ Settled site epoch

abbrev pub IsGranted : ℕ → View → Type 0
IsGranted part pass = (site : ℕ) × (epoch : ℕ) × (placing_seen pass part ≡ Granted site epoch)

abbrev pub IsGrantedNext : Placed → View → Type 0
IsGrantedNext place pass = (site : ℕ) × (placing_seen pass place.part ≡ Granted site (place.epoch + 1))

-- where no hand-over is under way, the partition is settled where the entry says
abbrev pub IsSettledUnasked : Placed → View → Type 0
IsSettledUnasked place pass = place.asked ≡ None → IsSettledAt place.part place.site place.epoch pass

-- the attempt is routed to the site, for something that wants the partition there
abbrev pub WantsPart : TxnId → ℕ → ℕ → View → Type 0
WantsPart txn part to pass =
    (wanted : Want) × (min : List ℕ) × (route : RoutedFor txn wanted min to pass) × IsTrue (wants_part (layout_of pass) part route.1 wanted)

abbrev pub IsSettle : Step → Type 0
IsSettle (Settle part epoch) = Unit {0}
IsSettle step = ⊥
