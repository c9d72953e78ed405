use Rattle.std.proofs.Common.{◌∷◌, [], ◌++◌, sym, ap, ◌∙◌, subst}
use Rattle.dm_disk.specs.Faults.{Rose}
use Rattle.dm_redo.specs.Log.{Log}
use Rattle.dm_desk.proofs.Desks.{appended, fits_in, follows_append, covers_append, ends_after, came_append, keeps_append, crash_append, met_and}
use Rattle.dm_invariant.specs.Keeping.{parts_of}
use Rattle.dm_invariant.specs.Turning.{is_ending}
use Rattle.dm_desk.proofs.desk.Desk.write.Goals as goal

pub settle-requires-clause-fits : goal.settle-requires-clause-fits
settle-requires-clause-fits g c = λ _.
    (let s = c.args.self.now in
    let t = c.enter_both-turn in
    fits_in g.N.Named.table g.N.Named.faults c.args.site c.args.txn c.args.pending c.args.own.now c.args.pass.now
    (parts_of g.D.LogDisk.story g.D.LogDisk.faults s.store s.locks s.log) t.result.seen t.result.fixed t.result.fixed
    c.requires.keeps c.requires.own c.requires.met t.ensures.turned t.ensures.met c.requires.may)

pub push_ending-requires-clause-follows : goal.push_ending-requires-clause-follows
push_ending-requires-clause-follows g c =
    let s = c.args.self.now in
    let t = c.enter_both-turn in
    follows_append g.N.Named.table g.N.Named.faults c.args.site c.args.txn c.args.pending c.args.own.now c.args.pass.now
    (parts_of g.D.LogDisk.story g.D.LogDisk.faults s.store s.locks s.log) t.result.seen t.result.fixed t.result.fixed
    c.requires.keeps c.requires.own c.requires.met t.ensures.turned t.ensures.met c.requires.may
    c.step_after.result c.append-done.result c.step_after.ensures

pub push_ending-requires-clause-ending : goal.push_ending-requires-clause-ending
push_ending-requires-clause-ending g c =
    ap is_ending c.step_after.ensures ∙ ends_after c.args.site c.args.txn c.args.pending c.append-done.result

pub push_ending-requires-clause-covers : goal.push_ending-requires-clause-covers
push_ending-requires-clause-covers g c =
    let s = c.args.self.now in
    let t = c.enter_both-turn in
    covers_append g.N.Named.table g.N.Named.faults c.args.site c.args.txn c.args.pending c.args.own.now c.args.pass.now
    (parts_of g.D.LogDisk.story g.D.LogDisk.faults s.store s.locks s.log) t.result.seen t.result.fixed t.result.fixed
    c.requires.keeps c.requires.own c.requires.met t.ensures.turned t.ensures.met c.requires.may
    t.result.actors t.new.other c.step_after.result c.append-done.result t.ensures.actors t.ensures.other c.step_after.ensures

pub returns-clause-keeps : goal.returns-clause-keeps
returns-clause-keeps g c =
    let s = c.args.self.now in
    let d = c.append-done in
    let t = c.enter_both-turn in
    let n = c.settle.new.self in
    let e = c.settle.ensures in
    keeps_append g.N.Named.table g.N.Named.faults c.args.site c.args.txn c.args.pending c.args.own.now c.args.pass.now
    (parts_of g.D.LogDisk.story g.D.LogDisk.faults s.store s.locks s.log) t.result.seen t.result.fixed t.result.fixed
    c.requires.keeps c.requires.own c.requires.met t.ensures.turned t.ensures.met c.requires.may
    d.result n.store n.locks n.log.live n.log.gate (g.D.LogDisk.story n.log.disk) (g.D.LogDisk.faults n.log.disk) c.push_ending.new.other
    c.step_after.result c.requires.live
    (appended g.D.LogDisk.story g.D.LogDisk.faults s.store s.locks s.log d.new.self n.log c.args.frame.now _ d.result c.requires.frame e.log
    d.ensures.story d.ensures.live d.ensures.gate d.ensures.count d.ensures.cause)
    e.layout e.installed e.locks c.step_after.ensures
    (met_and c.args.pass.now t.new.other c.push_ending.new.other t.result.seen (t.result.seen ++ c.step_after.result ∷ []) t.ensures.other
    c.push_ending.ensures.other)

pub returns-clause-came : goal.returns-clause-came
returns-clause-came g c =
    let s = c.args.self.now in
    let t = c.enter_both-turn in
    let x = c.push_ending in
    came_append g.N.Named.table g.N.Named.faults c.args.site c.args.txn c.args.pending c.args.own.now c.args.pass.now
    (parts_of g.D.LogDisk.story g.D.LogDisk.faults s.store s.locks s.log) t.result.seen t.result.fixed t.result.fixed
    c.requires.keeps c.requires.own c.requires.met t.ensures.turned t.ensures.met c.requires.may
    t.new.own t.new.other x.new.own x.new.other t.result.actors c.step_after.result c.append-done.result t.ensures.own t.ensures.other t.ensures.actors
    x.ensures.own x.ensures.other c.step_after.ensures

pub returns-clause-cause : goal.returns-clause-cause
returns-clause-cause g c =
    λ n. subst (λ (l : Log g.row.D.Denot). Rose (g.D.LogDisk.faults c.args.self.now.log.disk) (g.D.LogDisk.faults l.disk)) (sym c.settle.ensures.log)
    (c.append-done.ensures.cause n)

pub returns-clause-crash : goal.returns-clause-crash
returns-clause-crash g c =
    let s = c.args.self.now in
    let d = c.append-done in
    let t = c.enter_both-turn in
    let n = c.settle.new.self in
    crash_append g.N.Named.table g.N.Named.faults c.args.site c.args.txn c.args.pending c.args.own.now c.args.pass.now
    (parts_of g.D.LogDisk.story g.D.LogDisk.faults s.store s.locks s.log) t.result.seen t.result.fixed t.result.fixed
    c.requires.keeps c.requires.own c.requires.met t.ensures.turned t.ensures.met c.requires.may
    d.result n.log.live n.log.gate (g.D.LogDisk.story n.log.disk) (g.D.LogDisk.faults n.log.disk) c.push_ending.new.other c.step_after.result
    c.requires.live
    (appended g.D.LogDisk.story g.D.LogDisk.faults s.store s.locks s.log d.new.self n.log c.args.frame.now _ d.result c.requires.frame c.settle.ensures.log
    d.ensures.story d.ensures.live d.ensures.gate d.ensures.count d.ensures.cause)
    (met_and c.args.pass.now t.new.other c.push_ending.new.other t.result.seen (t.result.seen ++ c.step_after.result ∷ []) t.ensures.other
    c.push_ending.ensures.other)
