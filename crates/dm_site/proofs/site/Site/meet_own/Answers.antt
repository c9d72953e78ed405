use Rattle.std.proofs.Common.{refl, subst}
use Rattle.dm_chronicle.proofs.Lists.{prefix_refl}
use Rattle.dm_site.proofs.Catching.{met_turned, still_site, still_went, still_rested, refreshes}
use Rattle.dm_site.specs.Answers.{SiteRested}
use Rattle.dm_invariant.specs.Keeping.{parts_of}
use Rattle.dm_invariant.specs.Stations.{Station}
use Rattle.dm_site.proofs.site.Site.meet_own.Goals as goal

pub invariant_of-self : goal.invariant_of-self
invariant_of-self g c =
    let i = c.self.inside in let m = c.meet in let table = g.N.Named.table in let opened = g.N.Named.faults in let after = m.new.two in
    let parts = parts_of g.D.LogDisk.story g.D.LogDisk.faults i.desk.store i.desk.locks i.desk.log in
    let turned = met_turned c.args.own.now m.new.one i.pass after m.ensures.one m.ensures.two m.ensures.same m.ensures.fixed m.ensures.lawful in
    still_site table opened i.number i.pass parts c.self.invariant after.seen after.fixed turned after m.ensures.two.same i.desk.store refl refl

pub returns-clause-same : goal.returns-clause-same
returns-clause-same g c =
    let i = c.self.inside in let m = c.meet in let table = g.N.Named.table in let opened = g.N.Named.faults in let after = m.new.two in
    let parts = parts_of g.D.LogDisk.story g.D.LogDisk.faults i.desk.store i.desk.locks i.desk.log in
    let turned = met_turned c.args.own.now m.new.one i.pass after m.ensures.one m.ensures.two m.ensures.same m.ensures.fixed m.ensures.lawful in
    let inside : Station g.row.D.Denot = record {
      number = i.number;
      installed = i.desk.store.installed;
      locks = i.desk.locks;
      live = i.desk.log.live;
      pass = i.pass;
      disk = i.desk.log.disk;
    } in
    refreshes inside c.args.self.now i.desk.store.installed after c.self.view_is (prefix_refl i.desk.store.installed)
    (still_went table opened i.number i.pass parts c.self.invariant after.seen after.fixed turned after m.ensures.two.same)

pub returns-clause-rests : goal.returns-clause-rests
returns-clause-rests g c =
    let i = c.self.inside in let m = c.meet in let table = g.N.Named.table in let opened = g.N.Named.faults in let after = m.new.two in
    let parts = parts_of g.D.LogDisk.story g.D.LogDisk.faults i.desk.store i.desk.locks i.desk.log in
    let turned = met_turned c.args.own.now m.new.one i.pass after m.ensures.one m.ensures.two m.ensures.same m.ensures.fixed m.ensures.lawful in
    subst (λ (was : Station g.row.D.Denot). SiteRested was.number was.pass after) c.self.view_is
    (still_rested table opened i.number i.pass parts c.self.invariant after.seen after.fixed turned after m.ensures.two.same)
