use Rattle.std.proofs.Common.{refl}
use Rattle.dm_chronicle.proofs.Lists.{prefix_refl}
use Rattle.dm_site.proofs.Bodies.{site_met}
use Rattle.dm_site.proofs.Catching.{refreshes, still_went}
use Rattle.dm_site.proofs.Finishing.{crash_here}
use Rattle.dm_site.proofs.Granted.{due_after, range_after}
use Rattle.dm_site.proofs.site.Site.grant_check.Goals as goal

pub invariant_of-self : goal.invariant_of-self
invariant_of-self g c =
    let t = c.enter_both-turn in
    site_met {D = g.row.D.Denot} _ _ _ c.self.view_is c.self.invariant t.ensures.turned t.ensures.met t.new.other t.ensures.other

pub returns-clause-same : goal.returns-clause-same
returns-clause-same g c =
    let t = c.enter_both-turn in
    refreshes {D = g.row.D.Denot} _ _ c.self.inside.desk.store.installed t.new.other c.self.view_is (prefix_refl c.self.inside.desk.store.installed)
    (still_went _ _ _ _ _ c.self.invariant _ _ t.ensures.met t.new.other t.ensures.other)

pub returns-clause-due : goal.returns-clause-due
returns-clause-due g c =
    let t = c.enter_both-turn in
    due_after {D = g.row.D.Denot} _ _ c.self.view_is c.self.invariant t.ensures.met t.new.other t.ensures.other c.args.part _ _ _ c.grant_due.result
    c.is_down-down.ensures c.placing-now.ensures c.vector-has.ensures c.grant_due.ensures

pub returns-clause-range : goal.returns-clause-range
returns-clause-range g c =
    let t = c.enter_both-turn in
    let l = c.keeps_limits.ensures in
    range_after {D = g.row.D.Denot} _ _ c.self.view_is c.self.invariant t.ensures.met t.new.other t.ensures.other c.args.part c.grant_due.result
    (record { sites = l.sites; parts = l.parts; width = l.width })
    (due_after {D = g.row.D.Denot} _ _ c.self.view_is c.self.invariant t.ensures.met t.new.other t.ensures.other c.args.part _ _ _ c.grant_due.result
    c.is_down-down.ensures c.placing-now.ensures c.vector-has.ensures c.grant_due.ensures)

pub returns-clause-crash : goal.returns-clause-crash
returns-clause-crash g c =
    crash_here {D = g.row.D.Denot} g.D.LogDisk.story _ _ c.self.view_is c.self.invariant refl c.enter_both-turn.new.other _ refl
