use Rattle.std.proofs.lemmas.List.{take_rest}
use Rattle.dm_logdisk.proofs.Replayed.{replays_next}
use Rattle.dm_logdisk.proofs.crashing.replayed.Goals as goal

pub loop-change-preserved : goal.loop-change-preserved
loop-change-preserved c =
    replays_next _ _ _ _ _ _ _ _ _ c.loop-change-test.true c.loop-change.invariant (rw take_rest at c.in_ok-done.ensures.bytes) c.in_ok-done.ensures.used
