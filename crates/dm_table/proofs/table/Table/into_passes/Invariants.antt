use Rattle.std.specs.Prelude.{vec_len}
use Rattle.dm_table.specs.Starts.{ArePasses}
use Rattle.dm_table.proofs.table.Table.into_passes.Given as goal

abbrev pub invariant-loop-entry : goal.invariant-loop-entry
invariant-loop-entry g l = ArePasses g.N.Named.table 0 l.passes.items

abbrev pub decreases-loop-entry : goal.decreases-loop-entry
decreases-loop-entry g l = vec_len l.entries
