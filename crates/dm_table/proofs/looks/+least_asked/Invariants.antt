use Rattle.std.proofs.Common.{length}
use Rattle.dm_table.proofs.looks.+least_asked.Given as goal

abbrev pub decreases-least_asked : goal.decreases-least_asked
decreases-least_asked l = length l.seen.now
