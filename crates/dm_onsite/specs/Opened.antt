-- What the play begins with.
use Rattle.std.specs.Prelude.{◌≡◌, [], ◌∷◌, Option, IfSome, IsTrue}
use Rattle.atomic_table.specs.Seated.{TableId}
use Rattle.dm_event.specs.Layout.{Layout}
use Rattle.dm_event.specs.declared.actor.Actor.{Actor}
use Rattle.dm_invariant.specs.Stations.{View, layout_of}
use Rattle.dm_logdisk.specs.Story.{Story}
use Rattle.dm_redo.specs.Holding.{IsAt, IsFirm}
use Rattle.dm_redo.specs.Log.{Log}

-- a pass of one actor, which has seen nothing
abbrev pub IsNew : TableId → Layout → Actor → View → Type 0
IsNew table schema actor pass = (pass.table ≡ table) × (pass.actors ≡ actor ∷ []) × (pass.seen ≡ []) × (layout_of pass ≡ schema)

-- a live log without records, of which nothing is pending
abbrev pub IsEmpty : {D : Type 0} → (D → Option Story) → Log D → Type 0
IsEmpty story log = IsTrue log.live × IfSome (story log.disk) (λ s. IsAt [] log.gate s × IsFirm [] s)
