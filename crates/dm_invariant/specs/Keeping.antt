-- What a site keeps.
use Rattle.std.specs.List.{AllByRecursion as Each}
use Rattle.std.specs.Prelude.{◌≡◌, ℕ, Bool, List, [], ◌∷◌, Option, Some, reverse, IsTrue}
use Rattle.atomic_table.specs.Seated.{TableId}
use Rattle.dm_core.specs.Lawful.{Terms}
use Rattle.dm_event.specs.Layout.{Layout, is_site}
use Rattle.dm_event.specs.Vectors.{at}
use Rattle.dm_event.specs.declared.actor.Actor.TheVariants.{Site}
use Rattle.dm_event.specs.declared.step.Step.{Step}
use Rattle.dm_locks.specs.Locks.{Locks}
use Rattle.dm_logdisk.specs.Story.{Story}
use Rattle.dm_model.specs.Legal.{LegalPast}
use Rattle.dm_others.specs.Locking.{claims, IsSent}
use Rattle.dm_redo.specs.Log.{Log}
use Rattle.dm_invariant.specs.Causes.{Caused}
use Rattle.dm_invariant.specs.Logs.{Logged}
use Rattle.dm_invariant.specs.Stations.{View}
use Rattle.dm_store.specs.Contents.{Contents}
use Rattle.dm_stores.specs.Stores.{Stores}

-- the store, the lock table, and of the log whether it is live, its gate, what its disk tells and the count of its faults
pub record Parts : Type 0 where
  pub store : Contents
  pub locks : Locks
  pub live : Bool
  pub gate : ℕ
  pub told : Option Story
  pub faults : ℕ

-- What holds of a site's parts after the steps. The holders of keys are the attempts that run at the site, in the order of their
-- Begins, with their keys, and each waiter was sent to the site with its keys.
pub record Keeps (layout : Layout) (opened : List ℕ) (site : ℕ) (past : List Step) (parts : Parts) : Type 0 where
  pub there : IsTrue (is_site layout site)
  pub legal : LegalPast layout past
  pub layout_is : parts.store.layout ≡ layout
  pub stores : Stores layout past site parts.store.installed
  pub holders : parts.locks.holders ≡ claims site past
  pub waiters : Each (IsSent site past) parts.locks.waiters
  pub logged : Logged site past parts.live parts.gate parts.told
  pub caused : Caused (at opened site) site past parts.told parts.faults

-- the site's own pass of the chronicle, and parts that fit what it has seen
pub record IsSite (table : TableId) (opened : List ℕ) (site : ℕ) (pass : View) (parts : Parts) : Type 0 where
  pub table_is : pass.table ≡ table
  pub actors : pass.actors ≡ Site site ∷ []
  pub terms : Terms
  pub fixed : pass.fixed ≡ Some terms
  pub keeps : Keeps terms.layout opened site (reverse pass.seen) parts

-- the parts, of a disk that tells and counts so
abbrev pub parts_of : {D : Type 0} → (D → Option Story) → (D → ℕ) → Contents → Locks → Log D → Parts
parts_of story faults store locks log = record {
  store = store;
  locks = locks;
  live = log.live;
  gate = log.gate;
  told = story log.disk;
  faults = faults log.disk;
}
