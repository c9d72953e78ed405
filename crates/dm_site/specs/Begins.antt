-- What a begin leaves of a site.
use Rattle.std.specs.Prelude.{◌≡◌}
use mathlib.Core.List.{IsPrefix}
use Rattle.dm_locks.specs.Line.{Taken}
use Rattle.dm_locks.specs.Locks.{Locks, left_line}
use Rattle.dm_locks.specs.declared.claim.Claim.{Claim}
use Rattle.dm_locks.specs.declared.table.LockAnswer.TheVariants.{Got, Waits}
use Rattle.dm_invariant.specs.Stations.{Station, Went}
use Rattle.dm_site.specs.declared.answers.BeginAnswer.{BeginAnswer}
use Rattle.dm_site.specs.declared.answers.BeginAnswer.TheVariants as begun

-- the store has at least what it had, and the log and the disk are as before
pub record Begins {D : Type 0} (old new : Station D) : Type 0 where
  pub number : new.number ≡ old.number
  pub installed : IsPrefix old.installed new.installed
  pub live : new.live ≡ old.live
  pub pass : Went old.pass new.pass
  pub disk : new.disk ≡ old.disk

-- with Begun the attempt holds its keys, with Held it waits for who is ahead of it, and else nobody of its session waits
abbrev pub Lined : Claim → Locks → Locks → BeginAnswer → Type 0
Lined claim old new (begun.Begun run) = Taken claim old new Got
Lined claim old new begun.Moved = new ≡ left_line old claim.txn.session
Lined claim old new (begun.Held by key) = Taken claim old new (Waits by key)
Lined claim old new begun.Down = new ≡ left_line old claim.txn.session
