use Rattle.std.proofs.Common.{arith, not}
use Rattle.dm_locks.proofs.Sound.{fewer_wait}
use Rattle.dm_locks.specs.Claims.{is_of_session}
use Rattle.dm_locks.proofs.table.LockTable.leave_line.Goals as goal

pub invariant_of-self : goal.invariant_of-self
invariant_of-self c = record {
  sound = let s = fewer_wait (λ claim. not (is_of_session c.args.session claim)) c.self.inside.holders.items c.self.inside.waiters.items
      c.self.invariant.sound in
      rw c.leave_others.ensures.items s;
  holders = c.self.invariant.holders;
  waiters = omega (arith, c.leave_others.ensures.capacity);
}
