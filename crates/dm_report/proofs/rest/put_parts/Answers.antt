use Rattle.std.proofs.Common.{rules}
use Rattle.dm_report.proofs.LinesOf.{begins_more, parts_step}
use Rattle.dm_report.proofs.rest.put_parts.Goals as goal

pub returns-in_err-put_part : goal.returns-in_err-put_part
returns-in_err-put_part c = let kept = begins_more c.args.out.now.items _ _ _ c.loop-part.invariant c.in_err-put_part.ensures in search rules

pub loop-part-preserved : goal.loop-part-preserved
loop-part-preserved c = parts_step _ _ c.loop-part.part _ _ _ c.loop-part.invariant c.in_ok-put_part.ensures
