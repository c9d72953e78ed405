use Rattle.std.proofs.Common.{◌≤◌, arith, get_or, length}
use Rattle.dm_placement.proofs.Evens.{sum_small, far_small, far_more}
use Rattle.dm_placement.proofs.loads.uneven.Goals as goal

pub total-total-requires : goal.total-total-requires
total-total-requires c = omega (arith, sum_small c.args.loads.now c.requires.sites c.requires.loads)

pub overflow_add-uneven : goal.overflow_add-uneven
overflow_add-uneven c =
    let whole : c.total-total.result ≤ 1048576 = omega (arith, c.total-total.ensures, sum_small c.args.loads.now c.requires.sites c.requires.loads) in
    let far = far_small (length c.args.loads.now) (get_or c.args.loads.now c.loop-load.load-index 0) c.total-total.result c.requires.sites
    (c.requires.loads c.loop-load.load-index) whole in
    omega (arith, far, c.abs_diff-uneven.ensures)

pub loop-load-preserved : goal.loop-load-preserved
loop-load-preserved c =
    let whole : c.total-total.result ≤ 1048576 = omega (arith, c.total-total.ensures, sum_small c.args.loads.now c.requires.sites c.requires.loads) in
    let far = far_small (length c.args.loads.now) (get_or c.args.loads.now c.loop-load.load-index 0) c.total-total.result c.requires.sites
    (c.requires.loads c.loop-load.load-index) whole in
    record {
      far = far_more c.args.loads.now c.loop-load.load-index c.loop-load.uneven c.abs_diff-uneven.result c.total-total.result (omega arith)
          c.loop-load.invariant.far c.total-total.ensures c.abs_diff-uneven.ensures;
      bound = omega (arith, far, c.abs_diff-uneven.ensures);
    }
