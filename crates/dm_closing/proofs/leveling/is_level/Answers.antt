use Rattle.dm_closing.proofs.Levels.{one_more}
use Rattle.dm_closing.proofs.leveling.is_level.Goals as goal

pub loop-before-preserved : goal.loop-before-preserved
loop-before-preserved c =
    one_more c.args.book.now.layout c.args.book.now.steps c.loop-before.before _ c.loop-before.invariant c.is_level_at.ensures c.if-not-is_level_at.false
