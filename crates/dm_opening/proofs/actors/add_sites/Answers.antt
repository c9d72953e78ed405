use Rattle.dm_opening.proofs.Lists.{sites_at}
use Rattle.dm_opening.proofs.actors.add_sites.Goals as goal

pub loop-before-preserved : goal.loop-before-preserved
loop-before-preserved c = sites_at c.args.actors.now.items _ _ c.loop-before.before c.loop-before.invariant c.in_ok-push.ensures.items
