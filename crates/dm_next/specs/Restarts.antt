-- Where a site may start again, and which pending steps are its own.
use Rattle.std.specs.Prelude.{◌≡◌, ◌≢◌, ◌≤◌, ℕ, List, length}
use Rattle.dm_event.specs.Layout.{Layout}
use Rattle.dm_event.specs.Vectors.{at, AtMost}
use Rattle.dm_event.specs.declared.step.Found.{Found}
use Rattle.dm_event.specs.declared.step.Pending.{Pending}
use Rattle.dm_event.specs.declared.step.Pending.TheVariants as pending
use Rattle.dm_event.specs.declared.step.Step.{Step}
use Rattle.dm_model.specs.Allowed.{with_kept}
use Rattle.dm_model.specs.Closed.{Closed}
use Rattle.dm_model.specs.Floors.{floor}
use Rattle.dm_model.specs.Progress.{entry_count, site_vector}

-- The site may start again at the vector, where its log is found so: the vector has all of the site's own entries and its
-- floor, and is closed, where the kept step counts; and it has no more of another origin than the site had.
pub record StartsAt (layout : Layout) (past : List Step) (site : ℕ) (found : Found) (vector : List ℕ) : Type 0 where
  pub long : length vector ≡ layout.sites
  pub own : at vector site ≡ entry_count site (with_kept site found past)
  pub not_behind : AtMost (floor layout.sites (with_kept site found past) site) vector
  pub not_ahead : (origin : ℕ) → origin ≢ site → at vector origin ≤ at (site_vector layout.sites past site) origin
  pub closed : Closed vector (with_kept site found past)

-- a commit is its origin's
abbrev pub IsOwn : ℕ → Pending → Type 0
IsOwn site (pending.Commit entry) = entry.origin ≡ site
IsOwn site (pending.Release part epoch to vector) = Unit {0}
IsOwn site (pending.Grant part epoch vector) = Unit {0}
