use Rattle.std.proofs.Common.{arith}
use Rattle.dm_kept.specs.Ledger.{past}
use Rattle.dm_model.specs.Progress.{entry_count}
use Rattle.dm_steps.proofs.Components.{vector_is}
use Rattle.dm_core.proofs.counting.full.Goals as goal

pub returns : goal.returns
returns c = vector_is c.args.kept.now.layout.sites c.loop-origin.vector (λ k. entry_count k (past c.args.kept.now)) c.loop-origin.invariant.0
    (λ k x y. c.loop-origin.invariant.1 k x (omega (arith, y)))
