use Rattle.std.proofs.Common.{vec_len}
use Rattle.dm_opening.proofs.Sitting.{Partly}
use Rattle.dm_opening.proofs.sessions.open_all.Given as goal

abbrev pub invariant-loop-pass : goal.invariant-loop-pass
invariant-loop-pass g l = Partly l.chron.table l.chron.fixed l.fn.ids.items l.ids.items l.passes.items l.sessions.items

abbrev pub decreases-loop-pass : goal.decreases-loop-pass
decreases-loop-pass g l = vec_len l.passes
