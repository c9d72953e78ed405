-- What a lock table keeps.
use Rattle.std.specs.Prelude.{◌≤◌, vec_capacity}
use Rattle.dm_event.specs.declared.limits.TheConstants.{MAX_SESSIONS}
use Rattle.dm_locks.specs.Locks.{Locks}
use Rattle.dm_locks.specs.Sound.{Sound}
use Rattle.dm_locks.specs.declared.table.LockTable.TheInside.{Inside}

abbrev pub locks_of : Inside → Locks
locks_of table = record { holders = table.holders.items; waiters = table.waiters.items }

-- each list has room for a claim of each session
pub record HasRoom (table : Inside) : Type 0 where
  pub sound : Sound (locks_of table)
  pub holders : MAX_SESSIONS ≤ vec_capacity table.holders
  pub waiters : MAX_SESSIONS ≤ vec_capacity table.waiters
