use Rattle.std.proofs.Common.{rules}
use Rattle.dm_report.proofs.LinesOf.{begins_more, sites_step}
use Rattle.dm_report.proofs.rest.put_sites.Goals as goal

pub returns-in_err-put_site : goal.returns-in_err-put_site
returns-in_err-put_site c = let kept = begins_more c.args.out.now.items _ _ _ c.loop-site.invariant c.in_err-put_site.ensures in search rules

pub loop-site-preserved : goal.loop-site-preserved
loop-site-preserved c = sites_step _ _ c.loop-site.site _ _ _ c.loop-site.auto.site c.loop-site.invariant c.in_ok-put_site.ensures
