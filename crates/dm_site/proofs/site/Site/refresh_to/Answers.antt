use Rattle.dm_site.proofs.Catching.{refreshes_twice, looked_then}
use Rattle.dm_invariant.specs.Keeping.{parts_of}
use Rattle.dm_invariant.specs.Stations.{Station}
use Rattle.dm_site.proofs.site.Site.refresh_to.Goals as goal

pub returns-clause-same : goal.returns-clause-same
returns-clause-same g c =
    refreshes_twice c.args.self.now c.look-first.new.self c.refresh_one-done.new.self c.look-first.ensures.same c.refresh_one-done.ensures.same

pub returns-clause-look : goal.returns-clause-look
returns-clause-look g c =
    let i = c.self.inside in let first = c.look-first in let done = c.refresh_one-done in
    let parts = parts_of g.D.LogDisk.story g.D.LogDisk.faults i.desk.store i.desk.locks i.desk.log in
    let inside : Station g.row.D.Denot = record {
      number = i.number;
      installed = i.desk.store.installed;
      locks = i.desk.locks;
      live = i.desk.log.live;
      pass = i.pass;
      disk = i.desk.log.disk;
    } in
    looked_then g.N.Named.table g.N.Named.faults c.args.self.now first.new.self done.new.self inside parts c.self.invariant c.self.view_is
    first.ensures.same done.ensures.same c.args.to.now c.requires.counted done.result done.ensures.ok c.look_after.result c.look_after.ensures
