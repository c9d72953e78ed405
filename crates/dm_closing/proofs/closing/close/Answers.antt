use Rattle.std.proofs.Common.{◌∙◌}
use Rattle.dm_closing.proofs.Joins.{grew_on, sessions_kept, sites_left, sites_on}
use Rattle.dm_closing.proofs.closing.close.Goals as goal

pub returns-clause-sessions : goal.returns-clause-sessions
returns-clause-sessions g c =
    let p = c.take_sessions-bundle.result.pass in let e = c.close-book.ensures in
    sessions_kept c.args.sessions.items p c.close-book.result.steps c.take_sessions-bundle.ensures.sessions e.steps

pub returns-clause-disks : goal.returns-clause-disks
returns-clause-disks g c =
    let s = c.take_sites-bundle in let p = s.result.0.pass in let q = c.take_parts-bundle.result.pass in let r = c.take_sessions-bundle.result.pass in
    let e = c.close-book.ensures in
    let on = sites_on g.D.LogDisk.story g.D.LogDisk.faults g.N.Named.table g.N.Named.faults 1 p r s.result.1.items s.ensures.left
    (grew_on p q r c.take_parts-bundle.ensures.grew c.take_sessions-bundle.ensures.grew) in
    sites_left g.D.LogDisk.story g.D.LogDisk.faults g.N.Named.table g.N.Named.faults c.close-book.result.layout 1 r c.close-book.result.steps
    s.result.1.items on e.legal e.begins e.steps
