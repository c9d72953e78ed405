use Rattle.dm_site.proofs.Catching.{refreshes_none, refreshes_twice, counted_went, reached_by, down_by}
use Rattle.dm_site.proofs.site.Site.reach.Goals as goal

pub loop-init : goal.loop-init
loop-init g c = refreshes_none c.args.self.now

pub refresh_to-requires-clause-counted : goal.refresh_to-requires-clause-counted
refresh_to-requires-clause-counted g c =
    counted_went c.args.to.now c.args.self.now.pass c.loop.self.pass c.loop.invariant.pass c.requires.counted

pub loop-preserved : goal.loop-preserved
loop-preserved g c = refreshes_twice c.args.self.now c.loop.self c.refresh_to.new.self c.loop.invariant c.refresh_to.ensures.same

pub returns-in-Ok-Covers-clause-same : goal.returns-in-Ok-Covers-clause-same
returns-in-Ok-Covers-clause-same g c = refreshes_twice c.args.self.now c.loop.self c.refresh_to.new.self c.loop.invariant c.refresh_to.ensures.same

pub returns-in-Ok-Covers-clause-ok : goal.returns-in-Ok-Covers-clause-ok
returns-in-Ok-Covers-clause-ok g c =
    reached_by c.args.self.now c.loop.self c.loop.invariant c.args.to.now c.refresh_to.new.self.pass c.in-Ok-Covers.field-0 c.in-Ok-Covers.field-0-is
    c.in-Ok-Covers.ensures.look

pub returns-in-Ok-Down-clause-same : goal.returns-in-Ok-Down-clause-same
returns-in-Ok-Down-clause-same g c = refreshes_twice c.args.self.now c.loop.self c.refresh_to.new.self c.loop.invariant c.refresh_to.ensures.same

pub returns-in-Ok-Down-clause-ok : goal.returns-in-Ok-Down-clause-ok
returns-in-Ok-Down-clause-ok g c =
    down_by c.args.self.now c.loop.self c.loop.invariant c.args.to.now c.refresh_to.new.self.pass c.in-Ok-Down.field-0 c.in-Ok-Down.field-0-is
    c.in-Ok-Down.ensures.look

pub returns-in-Err-clause-same : goal.returns-in-Err-clause-same
returns-in-Err-clause-same g c = refreshes_twice c.args.self.now c.loop.self c.refresh_to.new.self c.loop.invariant c.refresh_to.ensures.same
