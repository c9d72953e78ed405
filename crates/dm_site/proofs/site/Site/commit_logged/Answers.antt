use Rattle.std.proofs.Common.{refl, ap, ◌∙◌}
use Rattle.dm_event.specs.declared.actor.Actor.TheVariants.{Session, Site as SiteActor}
use Rattle.dm_model.specs.Bodies.{has_writes}
use Rattle.dm_site.proofs.Bodies.{site_met}
use Rattle.dm_site.proofs.Finishing.{after_room, appends_after, crash_here, crash_later, met_here, origin_in, record_in_range, serves_held, wrote_here}
use Rattle.dm_invariant.proofs.Passing.{came_pass, given_back}
use Rattle.dm_invariant.specs.Running.{Going}
use Rattle.dm_site.proofs.site.Site.commit_logged.Goals as goal

pub invariant_of-self : goal.invariant_of-self
invariant_of-self g c =
    let t = c.enter_both-turn in
    site_met {D = g.row.D.Denot} _ _ _ c.self.view_is c.self.invariant t.ensures.turned t.ensures.met t.new.other t.ensures.other

pub returns-in_default-clause-err : goal.returns-in_default-clause-err
returns-in_default-clause-err g c =
    let t = c.enter_both-turn in (
      refl,
      met_here {D = g.row.D.Denot} _ _ _ c.self.view_is c.self.invariant t.ensures.turned t.ensures.met c.args.run.txn.session c.requires.own.1 c.leave.new.own
          t.new.other (given_back c.args.own.now t.new.own c.leave.new.own t.result.actors t.result.seen t.ensures.own t.ensures.actors c.leave.ensures.own)
          t.ensures.other,
    )

pub returns-in_default-clause-crash : goal.returns-in_default-clause-crash
returns-in_default-clause-crash g c =
    crash_here {D = g.row.D.Denot} g.D.LogDisk.story _ _ c.self.view_is c.self.invariant refl c.enter_both-turn.new.other _ refl

pub ready_commit-requires : goal.ready_commit-requires
ready_commit-requires g c =
    let t = c.enter_both-turn in
    let l = c.keeps_limits.ensures in
    record {
      range = record_in_range
          (serves_held {D = g.row.D.Denot} _ _ _ c.self.view_is c.self.invariant t.ensures.turned t.ensures.met c.run.view_is c.requires.here
          c.run.invariant refl c.requires.holds)
          (ap (λ (run : Going). has_writes run.ops) c.run.view_is ∙ c.requires.writes) c.next_seq-seq.result c.writes.result.now
          (record { sites = l.sites; parts = l.parts; width = l.width }) c.next_seq-seq.ensures c.writes.ensures;
    }

pub invariant_of-self-in_default-ready_commit : goal.invariant_of-self-in_default-ready_commit
invariant_of-self-in_default-ready_commit g c =
    let t = c.enter_both-turn in
    let n = c.ready_commit.new.self in
    let e = c.ready_commit.ensures in
    after_room
    (serves_held {D = g.row.D.Denot} _ _ _ c.self.view_is c.self.invariant t.ensures.turned t.ensures.met c.run.view_is c.requires.here
    c.run.invariant refl c.requires.holds)
    t.new.other n.store n.log.live n.log.gate (g.D.LogDisk.story n.log.disk) (g.D.LogDisk.faults n.log.disk) n.locks t.ensures.other e.layout e.installed
    e.locks e.live e.gate e.story e.faults

pub returns-in_default-ready_commit-clause-err : goal.returns-in_default-ready_commit-clause-err
returns-in_default-ready_commit-clause-err g c =
    let t = c.enter_both-turn in (
      refl,
      met_here {D = g.row.D.Denot} _ _ _ c.self.view_is c.self.invariant t.ensures.turned t.ensures.met c.args.run.txn.session c.requires.own.1 c.leave.new.own
          t.new.other (given_back c.args.own.now t.new.own c.leave.new.own t.result.actors t.result.seen t.ensures.own t.ensures.actors c.leave.ensures.own)
          t.ensures.other,
    )

pub returns-in_default-ready_commit-clause-crash : goal.returns-in_default-ready_commit-clause-crash
returns-in_default-ready_commit-clause-crash g c =
    crash_here {D = g.row.D.Denot} g.D.LogDisk.story _ _ c.self.view_is c.self.invariant refl c.enter_both-turn.new.other _ c.ready_commit.ensures.story

pub commit_vector-vector-requires : goal.commit_vector-vector-requires
commit_vector-vector-requires g c =
    let t = c.enter_both-turn in
    origin_in
    (serves_held {D = g.row.D.Denot} _ _ _ c.self.view_is c.self.invariant t.ensures.turned t.ensures.met c.run.view_is c.requires.here
    c.run.invariant refl c.requires.holds)
    (ap (λ (run : Going). has_writes run.ops) c.run.view_is ∙ c.requires.writes) c.entry_of-entry.result c.next_seq-seq.result c.entry_of-entry.ensures

pub write-done-requires-clause-keeps : goal.write-done-requires-clause-keeps
write-done-requires-clause-keeps g c =
    let t = c.enter_both-turn in
    let n = c.ready_commit.new.self in
    let e = c.ready_commit.ensures in
    after_room
    (serves_held {D = g.row.D.Denot} _ _ _ c.self.view_is c.self.invariant t.ensures.turned t.ensures.met c.run.view_is c.requires.here
    c.run.invariant refl c.requires.holds)
    t.new.other n.store n.log.live n.log.gate (g.D.LogDisk.story n.log.disk) (g.D.LogDisk.faults n.log.disk) n.locks t.ensures.other e.layout e.installed
    e.locks e.live e.gate e.story e.faults

pub write-done-requires-clause-may : goal.write-done-requires-clause-may
write-done-requires-clause-may g c =
    let t = c.enter_both-turn in
    appends_after
    (serves_held {D = g.row.D.Denot} _ _ _ c.self.view_is c.self.invariant t.ensures.turned t.ensures.met c.run.view_is c.requires.here
    c.run.invariant refl c.requires.holds)
    (ap (λ (run : Going). has_writes run.ops) c.run.view_is ∙ c.requires.writes) t.new.other c.entry_of-entry.result c.next_seq-seq.result
    c.entry_of-entry.ensures c.next_seq-seq.ensures t.ensures.other

pub returns-clause-ok : goal.returns-clause-ok
returns-clause-ok g c =
    let t = c.enter_both-turn in
    let r = c.ready_commit in
    let w = c.write-done in
    wrote_here {D = g.row.D.Denot} _ _ _ c.self.view_is c.self.invariant t.ensures.turned t.ensures.met c.run.view_is c.requires.own.1 c.requires.here.site_is
    c.leave.new.own t.new.other w.new.own w.new.pass
    (given_back c.args.own.now t.new.own c.leave.new.own t.result.actors t.result.seen t.ensures.own t.ensures.actors c.leave.ensures.own)
    t.ensures.other c.entry_of-entry.result w.result c.next_seq-seq.result c.entry_of-entry.ensures w.ensures.came
    c.told_commit.result c.commit_vector-vector.result c.in-Ok.reads c.told_commit.ensures c.commit_vector-vector.ensures (c.in-Ok.ensures ∙ c.reads.ensures)
    r.new.self.store.installed w.new.self.store.installed r.new.self.locks w.new.self.locks r.ensures.installed r.ensures.locks w.ensures.installed
    w.ensures.locks

pub returns-clause-crash : goal.returns-clause-crash
returns-clause-crash g c =
    let t = c.enter_both-turn in
    let w = c.write-done in
    crash_later {D = g.row.D.Denot} g.D.LogDisk.story _ _ c.self.view_is c.self.invariant refl t.ensures.met t.new.other w.new.pass t.ensures.other _ _
    c.ready_commit.ensures.story
    (came_pass (SiteActor c.self.inside.number) (Session c.run.inside.txn.session) c.leave.new.own t.new.other w.new.own w.new.pass _ w.ensures.came)
    w.ensures.crash
