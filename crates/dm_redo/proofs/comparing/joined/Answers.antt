use Rattle.dm_redo.proofs.Againsts.{framed_next, are_next}
use Rattle.dm_redo.proofs.comparing.joined.Goals as goal

pub loop-frame-preserved : goal.loop-frame-preserved
loop-frame-preserved c = record {
  joined =
      framed_next c.args.frames.now _ c.loop-frame.frame-index c.frame-item.result c.loop-frame-test.true c.frame-item.is _ _ c.loop-frame.invariant.joined
      c.in_ok-put.ensures.put;
  are =
      are_next c.args.frames.now _ c.loop-frame.frame-index c.frame-item.result c.loop-frame-test.true c.frame-item.is c.loop-frame.invariant.are
      c.in_ok-put.ensures.frame;
}
