use Rattle.std.proofs.Common.{◌≡◌, ◌≤◌, length, take}
use Rattle.dm_restart.specs.Plans.{numbers_of}
use Rattle.dm_restart.proofs.plans.count_of.Given as goal

abbrev pub invariant-loop-transaction : goal.invariant-loop-transaction
invariant-loop-transaction l = record {
  exact : l.count ≡ length (numbers_of l.site (take l.transaction-index l.past));
  few : l.count ≤ l.transaction-index;
}
