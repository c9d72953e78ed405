use Rattle.std.proofs.Common.{refl, subst}
use Rattle.dm_chronicle.proofs.Lists.{prefix_refl}
use Rattle.dm_site.proofs.Catching.{still_site, still_went, looked, refreshes}
use Rattle.dm_invariant.proofs.Passing.{given_back}
use Rattle.dm_site.specs.Catching.{Looked}
use Rattle.dm_invariant.specs.Keeping.{parts_of}
use Rattle.dm_invariant.specs.Stations.{Station}
use Rattle.dm_site.proofs.site.Site.look.Goals as goal

pub invariant_of-self : goal.invariant_of-self
invariant_of-self g c =
    let i = c.self.inside in let t = c.enter_alone-turn in let table = g.N.Named.table in let opened = g.N.Named.faults in let turn = t.result.seen in
    let parts = parts_of g.D.LogDisk.story g.D.LogDisk.faults i.desk.store i.desk.locks i.desk.log in
    let back = given_back i.pass t.new.own c.leave.new.own t.result.actors turn t.ensures.own t.ensures.actors c.leave.ensures.own in
    still_site table opened i.number i.pass parts c.self.invariant turn t.result.fixed t.ensures.turned c.leave.new.own back i.desk.store refl refl

pub returns-clause-same : goal.returns-clause-same
returns-clause-same g c =
    let i = c.self.inside in let t = c.enter_alone-turn in let table = g.N.Named.table in let opened = g.N.Named.faults in let turn = t.result.seen in
    let parts = parts_of g.D.LogDisk.story g.D.LogDisk.faults i.desk.store i.desk.locks i.desk.log in
    let back = given_back i.pass t.new.own c.leave.new.own t.result.actors turn t.ensures.own t.ensures.actors c.leave.ensures.own in
    let inside : Station g.row.D.Denot = record {
      number = i.number;
      installed = i.desk.store.installed;
      locks = i.desk.locks;
      live = i.desk.log.live;
      pass = i.pass;
      disk = i.desk.log.disk;
    } in
    refreshes inside c.args.self.now i.desk.store.installed c.leave.new.own c.self.view_is (prefix_refl i.desk.store.installed)
    (still_went table opened i.number i.pass parts c.self.invariant turn t.result.fixed t.ensures.turned c.leave.new.own back)

pub returns-clause-look : goal.returns-clause-look
returns-clause-look g c =
    let i = c.self.inside in let t = c.enter_alone-turn in let table = g.N.Named.table in let opened = g.N.Named.faults in let turn = t.result.seen in
    let parts = parts_of g.D.LogDisk.story g.D.LogDisk.faults i.desk.store i.desk.locks i.desk.log in
    let back = given_back i.pass t.new.own c.leave.new.own t.result.actors turn t.ensures.own t.ensures.actors c.leave.ensures.own in
    subst (λ (was : Station g.row.D.Denot). Looked was.number c.args.to.now c.leave.new.own c.look_of.result) c.self.view_is
    (looked table opened i.number i.pass parts c.self.invariant turn t.result.fixed t.ensures.turned c.leave.new.own back
    c.args.to.now c.vector.result c.is_down-down.result c.leq-covers.result c.look_of.result c.is_down-down.ensures c.vector.ensures c.leq-covers.ensures.0
    c.look_of.ensures)
