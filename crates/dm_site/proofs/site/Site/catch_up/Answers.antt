use Rattle.dm_site.proofs.Catching.{refreshes_twice, sees_twice, counted_met, caught_then}
use Rattle.dm_invariant.specs.Keeping.{parts_of}
use Rattle.dm_invariant.specs.Stations.{Station}
use Rattle.dm_site.proofs.site.Site.catch_up.Goals as goal

pub reach-done-requires-clause-counted : goal.reach-done-requires-clause-counted
reach-done-requires-clause-counted g c =
    let met = c.meet_own in
    counted_met c.args.to.now c.args.own.now met.new.own c.args.self.now.pass met.new.self.pass met.ensures.own met.ensures.met met.ensures.fixed
    met.ensures.same.pass c.requires.counted

pub returns-clause-same : goal.returns-clause-same
returns-clause-same g c =
    let met = c.meet_own in let done = c.reach-done in let last = c.meet_own-2 in
    refreshes_twice c.args.self.now done.new.self last.new.self
    (refreshes_twice c.args.self.now met.new.self done.new.self met.ensures.same done.ensures.same) last.ensures.same

pub returns-clause-own : goal.returns-clause-own
returns-clause-own g c =
    let met = c.meet_own in let last = c.meet_own-2 in
    sees_twice c.args.own.now met.new.own last.new.own met.ensures.own last.ensures.own

pub returns-clause-ok : goal.returns-clause-ok
returns-clause-ok g c =
    let i = c.self.inside in let met = c.meet_own in let done = c.reach-done in let last = c.meet_own-2 in
    let parts = parts_of g.D.LogDisk.story g.D.LogDisk.faults i.desk.store i.desk.locks i.desk.log in
    let inside : Station g.row.D.Denot = record {
      number = i.number;
      installed = i.desk.store.installed;
      locks = i.desk.locks;
      live = i.desk.log.live;
      pass = i.pass;
      disk = i.desk.log.disk;
    } in
    caught_then g.N.Named.table g.N.Named.faults c.args.self.now met.new.self done.new.self last.new.self inside parts c.self.invariant c.self.view_is
    met.ensures.same done.ensures.same last.ensures.same last.ensures.rests c.args.to.now done.result done.ensures.ok
