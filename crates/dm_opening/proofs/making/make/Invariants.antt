use Rattle.std.proofs.Common.{◌≤◌, length, vec_len, vec_capacity}
use Rattle.dm_opening.proofs.Building.{Partly}
use Rattle.dm_opening.proofs.making.make.Given as goal

abbrev pub invariant-loop-log : goal.invariant-loop-log
invariant-loop-log g l =
    Partly g.D.LogDisk.story g.D.LogDisk.faults l.chron.table l.chron.fixed l.fn.logs.items l.logs.items l.passes.items l.sites.items
    × (length l.fn.logs.items ≤ vec_capacity l.logs) × (length l.fn.logs.items ≤ vec_capacity l.sites)

abbrev pub decreases-loop-log : goal.decreases-loop-log
decreases-loop-log g l = vec_len l.logs
