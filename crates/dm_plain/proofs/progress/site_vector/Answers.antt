use Rattle.std.proofs.Common.{arith, reverse}
use Rattle.dm_model.specs.Progress.{reached}
use Rattle.dm_steps.proofs.Components.{vector_is}
use Rattle.dm_plain.proofs.progress.site_vector.Goals as goal

pub returns : goal.returns
returns c = vector_is c.args.schema.now.sites c.loop-origin.vector (λ j. reached c.args.site j (reverse c.args.steps.now)) c.loop-origin.invariant.0
    (λ k x y. c.loop-origin.invariant.1 k x (omega (arith, y)))
