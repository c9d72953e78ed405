use Rattle.std.proofs.Common.{true}
use Rattle.dm_redo.proofs.Exits.{undone_1, undone_2, doubt_3, doubt_4, done_4}
use Rattle.dm_redo.proofs.appending.write_frame.Goals as goal

pub returns-in_default-clause-story : goal.returns-in_default-clause-story
returns-in_default-clause-story g c =
    undone_1 c.args.gate c.args.frame.now c.closed-closed.result.now c.closed-closed.ensures.bytes (g.D.LogDisk.story c.args.disk.now)
    (g.D.LogDisk.story c.write_at.new.self) (g.D.LogDisk.story c.args.disk.now) (g.D.LogDisk.story c.args.disk.now)
    (g.D.LogDisk.story c.args.disk.now) c.in_default.ensures.noted.0 true true true c.in_default.ensures.noted.2

pub returns-in_default-sync-clause-story : goal.returns-in_default-sync-clause-story
returns-in_default-sync-clause-story g c =
    undone_2 c.args.gate c.args.frame.now c.closed-closed.result.now c.closed-closed.ensures.bytes (g.D.LogDisk.story c.args.disk.now)
    (g.D.LogDisk.story c.write_at.new.self) (g.D.LogDisk.story c.sync.new.self) (g.D.LogDisk.story c.args.disk.now)
    (g.D.LogDisk.story c.args.disk.now) c.in-Ok.ensures.noted.0 c.in_default-sync.ensures.noted.0 true true c.in-Ok.ensures.noted.2 c.in-Ok.ensures.noted.1
    c.in_default-sync.ensures.noted.2

pub returns-in_default-write_at-clause-story : goal.returns-in_default-write_at-clause-story
returns-in_default-write_at-clause-story g c =
    doubt_3 c.args.gate c.args.frame.now c.closed-closed.result.now c.closed-closed.ensures.bytes (g.D.LogDisk.story c.args.disk.now)
    (g.D.LogDisk.story c.write_at.new.self) (g.D.LogDisk.story c.sync.new.self) (g.D.LogDisk.story c.write_at-2.new.self)
    (g.D.LogDisk.story c.args.disk.now) c.in-Ok.ensures.noted.0 c.in-Ok-sync.ensures.noted.0 c.in_default-write_at.ensures.noted.0 true
    c.in-Ok.ensures.noted.2 c.in-Ok.ensures.noted.1 c.in-Ok-sync.ensures.noted.2 c.in-Ok-sync.ensures.noted.1 c.in_default-write_at.ensures.noted.2

pub returns-in-Err-clause-story : goal.returns-in-Err-clause-story
returns-in-Err-clause-story g c =
    doubt_4 c.args.gate c.args.frame.now c.closed-closed.result.now c.closed-closed.ensures.bytes (g.D.LogDisk.story c.args.disk.now)
    (g.D.LogDisk.story c.write_at.new.self) (g.D.LogDisk.story c.sync.new.self) (g.D.LogDisk.story c.write_at-2.new.self)
    (g.D.LogDisk.story c.sync-2.new.self) c.in-Ok.ensures.noted.0 c.in-Ok-sync.ensures.noted.0 c.in-Ok-write_at.ensures.noted.0 c.in-Err.ensures.noted.0
    c.in-Ok.ensures.noted.2 c.in-Ok.ensures.noted.1 c.in-Ok-sync.ensures.noted.2 c.in-Ok-sync.ensures.noted.1 c.in-Ok-write_at.ensures.noted.2
    c.in-Ok-write_at.ensures.noted.1 c.in-Err.ensures.noted.2

pub returns-in-Ok-sync-2-clause-story : goal.returns-in-Ok-sync-2-clause-story
returns-in-Ok-sync-2-clause-story g c =
    done_4 c.args.gate c.args.frame.now c.closed-closed.result.now c.closed-closed.ensures.bytes (g.D.LogDisk.story c.args.disk.now)
    (g.D.LogDisk.story c.write_at.new.self) (g.D.LogDisk.story c.sync.new.self) (g.D.LogDisk.story c.write_at-2.new.self)
    (g.D.LogDisk.story c.sync-2.new.self) c.in-Ok.ensures.noted.0 c.in-Ok-sync.ensures.noted.0 c.in-Ok-write_at.ensures.noted.0 c.in-Ok-sync-2.ensures.noted.0
    c.in-Ok.ensures.noted.2 c.in-Ok.ensures.noted.1 c.in-Ok-sync.ensures.noted.2 c.in-Ok-sync.ensures.noted.1 c.in-Ok-write_at.ensures.noted.2
    c.in-Ok-write_at.ensures.noted.1 c.in-Ok-sync-2.ensures.noted.2 c.in-Ok-sync-2.ensures.noted.1
