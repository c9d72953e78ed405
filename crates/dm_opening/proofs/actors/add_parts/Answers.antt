use Rattle.dm_opening.proofs.Lists.{parts_at}
use Rattle.dm_opening.proofs.actors.add_parts.Goals as goal

pub loop-part-preserved : goal.loop-part-preserved
loop-part-preserved c = parts_at c.args.actors.now.items _ _ c.loop-part.part c.loop-part.invariant c.in_ok-push.ensures.items
