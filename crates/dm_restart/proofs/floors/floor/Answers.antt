use Rattle.std.proofs.Common.{◌∙◌}
use Rattle.dm_steps.proofs.Components.{join_none}
use Rattle.dm_restart.proofs.Maxima.{floor_raised, floor_stays}
use Rattle.dm_restart.proofs.floors.floor.Goals as goal
use Rattle.dm_restart.proofs.floors.floor.Goals.{in-Some, in_default}

pub loop-record-init : goal.loop-record-init
loop-record-init c = c.zeros-floor.ensures ∙ join_none c.args.sites

pub loop-record-preserved : goal.loop-record-preserved
loop-record-preserved c =
    elim c.match-counted.branch [
      | in-Some w ↦ w.floor-is ∙ floor_raised c.args.sites c.args.site c.args.own.now c.loop-record.record-index c.record-item.result w.in-Some.vector c.loop-record.floor
          w.raise.new.vector c.loop-record-test.true c.record-item.is w.in-Some.ensures c.loop-record.invariant w.raise.ensures
      | in_default w ↦ w.floor-is ∙ floor_stays c.args.sites c.args.site c.args.own.now c.loop-record.record-index c.record-item.result c.loop-record.floor
          c.loop-record-test.true c.record-item.is w.in_default.ensures c.loop-record.invariant
    ]
