use Rattle.std.proofs.Common.{refl}
use Rattle.dm_opening.proofs.Lists.{ids_at}
use Rattle.dm_opening.proofs.actors.ids_of.Goals as goal

pub loop-i-preserved : goal.loop-i-preserved
loop-i-preserved c = ids_at c.args.items.now _ _ c.loop-i.i _ _ c.loop-i-test.true refl refl c.loop-i.invariant c.in_ok-add_id.ensures
