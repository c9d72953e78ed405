use Rattle.std.proofs.Common.{◌≡◌, ◌++◌, false, drop}
use Rattle.dm_logdisk.specs.Picks.{mixed}
use Rattle.dm_logdisk.proofs.crashing.mixed.Given as goal

abbrev pub invariant-loop-at : goal.invariant-loop-at
invariant-loop-at l = l.out.items ++ mixed l.odd (drop l.at l.kept) (drop l.at l.read) ≡ mixed false l.kept l.read
