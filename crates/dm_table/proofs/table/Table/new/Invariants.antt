use Rattle.std.specs.Prelude.{vec_len}
use Rattle.dm_table.specs.Starts.{AreNew}
use Rattle.dm_table.proofs.table.Table.new.Given as goal

abbrev pub invariant-loop-pass : goal.invariant-loop-pass
invariant-loop-pass g l = AreNew g.N.Named.table l.schema 0 l.passes.items

abbrev pub decreases-loop-pass : goal.decreases-loop-pass
decreases-loop-pass g l = vec_len l.passes
