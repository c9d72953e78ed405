use Rattle.std.proofs.Common.{subst}
use Rattle.dm_site.proofs.Bodies.{site_met}
use Rattle.dm_site.proofs.Releases.{due_in, range_in}
use Rattle.dm_site.specs.Handing.{IsReleaseDue}
use Rattle.dm_invariant.specs.Stations.{Station}
use Rattle.dm_site.proofs.site.Site.release_check.Goals as goal

pub invariant_of-self : goal.invariant_of-self
invariant_of-self g c =
    let t = c.enter_both-turn in
    site_met {D = g.row.D.Denot} _ _ _ c.self.view_is c.self.invariant t.ensures.turned t.ensures.met t.new.other t.ensures.other

pub returns-clause-due : goal.returns-clause-due
returns-clause-due g c =
    let t = c.enter_both-turn in
    subst (λ (at : Station g.row.D.Denot). IsReleaseDue at.number c.args.part t.new.other c.release_due.result) c.self.view_is
    (due_in c.self.invariant t.ensures.met t.new.other t.ensures.other c.args.part c.is_down-down.result c.placing-now.result c.runner-runner.result
    c.vector-vector.result c.release_due.result c.is_down-down.ensures c.placing-now.ensures c.runner-runner.ensures c.vector-vector.ensures
    c.release_due.ensures)

pub returns-clause-range : goal.returns-clause-range
returns-clause-range g c =
    let t = c.enter_both-turn in
    let l = c.keeps_limits.ensures in
    range_in c.self.invariant t.ensures.met t.new.other t.ensures.other c.args.part c.release_due.result
    (record { sites = l.sites; parts = l.parts; width = l.width })
    (due_in c.self.invariant t.ensures.met t.new.other t.ensures.other c.args.part c.is_down-down.result c.placing-now.result c.runner-runner.result
    c.vector-vector.result c.release_due.result c.is_down-down.ensures c.placing-now.ensures c.runner-runner.ensures c.vector-vector.ensures
    c.release_due.ensures)
