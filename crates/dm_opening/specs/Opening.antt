-- What the clients of a run begin with.
use Rattle.std.specs.Prelude.{◌≡◌, ℕ, ◌∷◌, List, [], Option, Some, IfSome, IsTrue}
use Rattle.atomic_table.specs.Seated.{TableId}
use Rattle.dm_core.specs.Lawful.{Terms}
use Rattle.dm_logdisk.specs.Story.{Story}
use Rattle.dm_redo.specs.Holding.{IsAt, IsFirm}
use Rattle.dm_redo.specs.Log.{Log}
use Rattle.dm_session.specs.Sitting.{Sitting}

-- the name of its chronicle, what the schema says, the number of items of each session, and the disks of the sites in order
pub record Opening (D : Type 0) : Type 0 where
  pub table : TableId
  pub terms : Terms
  pub disks : List D

-- a live log without records, of which nothing is pending
abbrev pub IsEmpty : {D : Type 0} → (D → Option Story) → Log D → Type 0
IsEmpty story log = IsTrue log.live × IfSome (story log.disk) (λ s. IsAt [] log.gate s × IsFirm [] s)

abbrev pub AllEmpty : {D : Type 0} → (D → Option Story) → List (Log D) → Type 0
AllEmpty story [] = Unit {0}
AllEmpty story (log ∷ logs) = IsEmpty story log × AllEmpty story logs

-- a session of that chronicle that has neither a Route nor a Reply
pub record IsNew (table : TableId) (terms : Terms) (id : ℕ) (session : Sitting) : Type 0 where
  pub id_is : session.id ≡ id
  pub none : session.count ≡ 0
  pub table_is : session.pass.table ≡ table
  pub terms_are : session.pass.fixed ≡ Some terms
  pub empty : session.pass.seen ≡ []

-- the sessions with these numbers
abbrev pub AreNew : TableId → Terms → List ℕ → List Sitting → Type 0
AreNew table terms [] [] = Unit {0}
AreNew table terms (id ∷ ids) (session ∷ sessions) = IsNew table terms id session × AreNew table terms ids sessions
AreNew table terms ids sessions = ⊥
