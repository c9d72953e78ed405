use Rattle.std.proofs.Common.{◌∙◌, arith}
use Rattle.dm_event.specs.declared.step.Op.TheVariants.{Read}
use Rattle.dm_body.proofs.OwnWrites.{own_more}
use Rattle.dm_body.proofs.fitting.own_write.Goals as goal

pub loop-op-preserved : goal.loop-op-preserved
loop-op-preserved g c = record {
  own = own_more (g.V.View.values c.args.view.now) (g.V.View.values c.loop-op.view) c.args.ops.now c.loop-op.op-index c.args.key (Read 0) c.loop-op.own
      c.own_after-own.result (omega arith) c.loop-op.invariant.values c.loop-op.invariant.own c.own_after-own.ensures.own;
  values = c.own_after-own.ensures.values ∙ c.loop-op.invariant.values;
}
