-- What a closed history has of those who took part in it.
use Rattle.std.specs.Prelude.{◌≡◌, ℕ, ◌+◌, List, [], ◌∷◌, Option, reverse, length, IfSome, IsFalse, IsTrue}
use Rattle.dm_event.specs.Layout.{Layout, is_site}
use Rattle.dm_event.specs.Vectors.{at}
use Rattle.dm_event.specs.declared.actor.Actor.TheVariants.{Session}
use Rattle.dm_event.specs.declared.step.Step.{Step}
use Rattle.dm_frames.specs.Records.{frames_of}
use Rattle.dm_invariant.specs.Causes.{Caused}
use Rattle.dm_invariant.specs.Stations.{own}
use Rattle.dm_logdisk.specs.Story.{Story, EachImage}
use Rattle.dm_model.specs.Doubts.{is_down}
use Rattle.dm_model.specs.Progress.{full, site_vector}
use Rattle.dm_redo.specs.Holding.{Holds}
use Rattle.dm_session.specs.Sitting.{Sitting}

-- the session's own steps are those that its pass has seen
abbrev pub AllKept : List Sitting → List Step → Type 0
AllKept [] history = Unit {0}
AllKept (session ∷ sessions) history =
    (own (Session session.id) history ≡ own (Session session.id) session.pass.seen) × AllKept sessions history

-- Of the site with this number and its disk: if it is up each image of the disk holds its records, and what it failed for has its
-- cause on that disk.
pub record LeftSo (opened : List ℕ) (site : ℕ) (history : List Step) (told : Option Story) (faults : ℕ) : Type 0 where
  pub held : IsFalse (is_down site (reverse history)) → IfSome told (EachImage (Holds (frames_of site (reverse history))))
  pub caused : Caused (at opened site) site (reverse history) told faults

-- of the sites from this number on, and their disks
abbrev pub AllLeft : {D : Type 0} → (D → Option Story) → (D → ℕ) → List ℕ → ℕ → List Step → List D → Type 0
AllLeft story faults opened site history [] = Unit {0}
AllLeft story faults opened site history (disk ∷ disks) =
    LeftSo opened site history (story disk) (faults disk) × AllLeft story faults opened (site + 1) history disks

-- if the site is up it has all that was committed
abbrev pub IsLevel : Layout → List Step → ℕ → Type 0
IsLevel layout history site = IsFalse (is_down site (reverse history))
    → site_vector layout.sites (reverse history) site ≡ full layout.sites (reverse history)

abbrev pub AllLevel : Layout → List Step → Type 0
AllLevel layout history = (site : ℕ) → IsTrue (is_site layout site) → IsLevel layout history site
