-- Passes that came in, one after the other.
use Rattle.std.specs.Prelude.{◌≡◌, ℕ, ◌+◌, List, [], ◌∷◌, ◌++◌, Option}
use mathlib.Core.List.{IsPrefix}
use Rattle.atomic_table.specs.Seated.{TableId}
use Rattle.dm_chronicle.specs.Belongs.{belongs}
use Rattle.dm_chronicle.specs.Rule.{In}
use Rattle.dm_chronicle.specs.Standing.{SameSteps}
use Rattle.dm_event.specs.Actors.{actors}
use Rattle.dm_event.specs.declared.actor.Actor.{Actor}
use Rattle.dm_event.specs.declared.actor.Actor.TheVariants.{Session, Site}
use Rattle.dm_invariant.specs.Stations.{View, own}
use Rattle.dm_logdisk.specs.Story.{Story}
use Rattle.dm_session.specs.Sitting.{Sitting}
use Rattle.dm_site.specs.Leaving.{Leaves}

-- the pass took others in: it has their actors too, has seen no less, and its own actors' steps are the same
pub record Grew (old new : View) : Type 0 where
  pub table : new.table ≡ old.table
  pub more : List Actor
  pub holds : new.actors ≡ old.actors ++ more
  pub begins : IsPrefix old.seen new.seen
  pub steps : SameSteps (belongs actors) old.actors old.seen new.seen

-- the actor's pass came in with these steps
pub record CameIn (actor : Actor) (was pass : View) : Type 0 where
  pub there : In actor pass.actors
  pub begins : IsPrefix was.seen pass.seen
  pub steps : own actor pass.seen ≡ own actor was.seen

abbrev pub AreIn : List Sitting → View → Type 0
AreIn [] pass = Unit {0}
AreIn (session ∷ sessions) pass = CameIn (Session session.id) session.pass pass × AreIn sessions pass

-- a site's pass came in, and its disk is as the site left it
pub record HasLeft (table : TableId) (opened : List ℕ) (site : ℕ) (pass : View) (told : Option Story) (faults : ℕ) : Type 0 where
  pub was : View
  pub leaves : Leaves table opened site was told faults
  pub came : CameIn (Site site) was pass

-- those of the sites from this one on, and their disks
abbrev pub HaveLeft : {D : Type 0} → (D → Option Story) → (D → ℕ) → TableId → List ℕ → ℕ → View → List D → Type 0
HaveLeft story faults table opened site pass [] = Unit {0}
HaveLeft story faults table opened site pass (disk ∷ disks) =
    HasLeft table opened site pass (story disk) (faults disk) × HaveLeft story faults table opened (site + 1) pass disks
