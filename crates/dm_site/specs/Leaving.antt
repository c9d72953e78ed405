-- What a site leaves once it is taken apart.
use Rattle.std.specs.Prelude.{◌≡◌, ℕ, List, [], ◌∷◌, Option, reverse, IfSome}
use Rattle.atomic_table.specs.Seated.{TableId}
use Rattle.dm_event.specs.Vectors.{at}
use Rattle.dm_event.specs.declared.actor.Actor.TheVariants.{Site}
use Rattle.dm_frames.specs.Records.{frames_of}
use Rattle.dm_invariant.specs.Causes.{Caused}
use Rattle.dm_invariant.specs.Stations.{View}
use Rattle.dm_logdisk.specs.Story.{Story, EachImage}
use Rattle.dm_redo.specs.Holding.{Holds}
use Rattle.dm_site.specs.Answers.{IsUpIn}

-- Its pass has its steps alone. If it is up, each image of its disk holds its records; and what it failed for has its cause on that
-- disk, whose count of faults at the opening is given.
pub record Leaves (table : TableId) (opened : List ℕ) (site : ℕ) (pass : View) (told : Option Story) (faults : ℕ) : Type 0 where
  pub table_is : pass.table ≡ table
  pub actors : pass.actors ≡ Site site ∷ []
  pub held : IsUpIn pass site → IfSome told (EachImage (Holds (frames_of site (reverse pass.seen))))
  pub caused : Caused (at opened site) site (reverse pass.seen) told faults
