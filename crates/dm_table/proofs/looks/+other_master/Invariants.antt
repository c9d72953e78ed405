use Rattle.std.proofs.Common.{length}
use Rattle.dm_table.proofs.looks.+other_master.Given as goal

abbrev pub decreases-other_master : goal.decreases-other_master
decreases-other_master l = length l.seen.now
