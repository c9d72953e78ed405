use Rattle.std.proofs.Common.{◌∷◌, [], ◌++◌, sym, ◌∙◌}
use Rattle.std.specs.Prelude.{option_map, reverse}
use Rattle.dm_event.specs.declared.step.Step.TheVariants.{Fail}
use Rattle.dm_frames.specs.Records.{frames_of}
use Rattle.dm_desk.proofs.Desks.{clean_mapped, load_at, load_caused, load_crash, load_fails, load_follows, load_keeps, met_and, no_doubt_mapped}
use Rattle.dm_invariant.specs.Loading.{LoadedAgainst}
use Rattle.dm_invariant.specs.Keeping.{parts_of}
use Rattle.dm_invariant.specs.Logs.{doubted}
use Rattle.dm_desk.proofs.desk.Desk.load.Given.{Over}
use Rattle.dm_desk.proofs.desk.Desk.load.Goals as goal
use Rattle.dm_desk.proofs.desk.Desk.load.Goals.{After-load_against}

-- what the load says, against what the site has
against : (g : Over) (c : After-load_against g)
    → LoadedAgainst (parts_of g.D.LogDisk.story g.D.LogDisk.faults c.args.self.now.store c.args.self.now.locks c.args.self.now.log)
    (frames_of c.args.site (reverse c.args.pass.now.seen)) (doubted c.args.site (reverse c.args.pass.now.seen)) c.load_against.result
    c.load_against.new.self.live c.load_against.new.self.gate (g.D.LogDisk.story c.load_against.new.self.disk)
    (g.D.LogDisk.faults c.load_against.new.self.disk)
against g c =
    let e = c.load_against.ensures in
    load_at (parts_of g.D.LogDisk.story g.D.LogDisk.faults c.args.self.now.store c.args.self.now.locks c.args.self.now.log)
    c.args.frames.now (frames_of c.args.site (reverse c.args.pass.now.seen))
    (option_map (λ f. f.now) c.args.pending) (doubted c.args.site (reverse c.args.pass.now.seen)) c.load_against.result
    c.load_against.new.self.live c.load_against.new.self.gate (g.D.LogDisk.story c.load_against.new.self.disk)
    (g.D.LogDisk.faults c.load_against.new.self.disk) c.requires.frames c.requires.pending
    (record {
      says = e.says;
      keeps = e.keeps;
      stands = e.stands;
      is_live = e.live;
      dead = e.dead;
      count = e.count;
      clean = clean_mapped (λ f. f.now) c.args.pending c.load_against.result e.clean;
      no_doubt = no_doubt_mapped (λ f. f.now) c.args.pending c.load_against.result e.pending;
      apart = e.apart;
      expected = e.expected;
      cause = e.cause;
    })

pub returns-in_default-clause-keeps : goal.returns-in_default-clause-keeps
returns-in_default-clause-keeps g c =
    let s = c.args.self.now in
    let l = c.load_against in
    load_keeps g.N.Named.table g.N.Named.faults c.args.site c.args.pass.now (parts_of g.D.LogDisk.story g.D.LogDisk.faults s.store s.locks s.log)
    c.requires.keeps l.result l.new.self.live l.new.self.gate (g.D.LogDisk.story l.new.self.disk) (g.D.LogDisk.faults l.new.self.disk)
    (against g (goal.at.returns-in_default-clause-keeps g c).After-load_against)

pub returns-in_default-clause-crash : goal.returns-in_default-clause-crash
returns-in_default-clause-crash g c =
    let s = c.args.self.now in
    let l = c.load_against in
    load_crash g.N.Named.table g.N.Named.faults c.args.site c.args.pass.now (parts_of g.D.LogDisk.story g.D.LogDisk.faults s.store s.locks s.log)
    c.requires.keeps l.result l.new.self.live l.new.self.gate (g.D.LogDisk.story l.new.self.disk) (g.D.LogDisk.faults l.new.self.disk)
    (against g (goal.at.returns-in_default-clause-crash g c).After-load_against) c.args.pass.now

pub push_ending-requires-clause-follows : goal.push_ending-requires-clause-follows
push_ending-requires-clause-follows g c =
    let s = c.args.self.now in
    let l = c.load_against in
    let t = c.enter_both-turn in
    load_follows g.N.Named.table g.N.Named.faults c.args.site c.args.pass.now (parts_of g.D.LogDisk.story g.D.LogDisk.faults s.store s.locks s.log)
    c.requires.keeps l.result l.new.self.live l.new.self.gate (g.D.LogDisk.story l.new.self.disk) (g.D.LogDisk.faults l.new.self.disk)
    (against g (goal.at.push_ending-requires-clause-follows g c).After-load_against)
    c.args.txn c.args.own.now t.result.seen t.result.fixed t.result.fixed c.requires.own c.requires.met t.ensures.turned t.ensures.met c.requires.may
    c.in-Err.fault c.in-Some.cause c.in-Err.is (sym c.cause_of.ensures ∙ c.in-Some.is)

pub returns-in-Ok-clause-keeps : goal.returns-in-Ok-clause-keeps
returns-in-Ok-clause-keeps g c =
    let s = c.args.self.now in
    let l = c.load_against in
    load_keeps g.N.Named.table g.N.Named.faults c.args.site c.args.pass.now (parts_of g.D.LogDisk.story g.D.LogDisk.faults s.store s.locks s.log)
    c.requires.keeps l.result l.new.self.live l.new.self.gate (g.D.LogDisk.story l.new.self.disk) (g.D.LogDisk.faults l.new.self.disk)
    (against g (goal.at.returns-in-Ok-clause-keeps g c).After-load_against)

pub returns-in-Ok-clause-crash : goal.returns-in-Ok-clause-crash
returns-in-Ok-clause-crash g c =
    let s = c.args.self.now in
    let l = c.load_against in
    load_crash g.N.Named.table g.N.Named.faults c.args.site c.args.pass.now (parts_of g.D.LogDisk.story g.D.LogDisk.faults s.store s.locks s.log)
    c.requires.keeps l.result l.new.self.live l.new.self.gate (g.D.LogDisk.story l.new.self.disk) (g.D.LogDisk.faults l.new.self.disk)
    (against g (goal.at.returns-in-Ok-clause-crash g c).After-load_against) c.args.pass.now

pub returns-in-Some-clause-keeps : goal.returns-in-Some-clause-keeps
returns-in-Some-clause-keeps g c =
    let s = c.args.self.now in
    let l = c.load_against in
    let t = c.enter_both-turn in
    load_fails g.N.Named.table g.N.Named.faults c.args.site c.args.pass.now (parts_of g.D.LogDisk.story g.D.LogDisk.faults s.store s.locks s.log)
    c.requires.keeps l.result l.new.self.live l.new.self.gate (g.D.LogDisk.story l.new.self.disk) (g.D.LogDisk.faults l.new.self.disk)
    (against g (goal.at.returns-in-Some-clause-keeps g c).After-load_against)
    c.args.txn c.args.own.now t.result.seen t.result.fixed t.result.fixed c.requires.own c.requires.met t.ensures.turned t.ensures.met c.requires.may
    c.in-Err.fault c.in-Some.cause c.in-Err.is (sym c.cause_of.ensures ∙ c.in-Some.is)
    c.let_go.new.locks c.push_ending.new.other c.let_go.ensures
    (met_and c.args.pass.now t.new.other c.push_ending.new.other t.result.seen (t.result.seen ++ Fail c.args.site c.args.txn c.in-Some.cause ∷ [])
    t.ensures.other c.push_ending.ensures.other)

pub returns-in-Some-clause-caused : goal.returns-in-Some-clause-caused
returns-in-Some-clause-caused g c =
    let s = c.args.self.now in
    let l = c.load_against in
    load_caused g.N.Named.table g.N.Named.faults c.args.site c.args.pass.now (parts_of g.D.LogDisk.story g.D.LogDisk.faults s.store s.locks s.log)
    c.requires.keeps l.result l.new.self.live l.new.self.gate (g.D.LogDisk.story l.new.self.disk) (g.D.LogDisk.faults l.new.self.disk)
    (against g (goal.at.returns-in-Some-clause-caused g c).After-load_against) c.in-Err.fault c.in-Some.cause c.in-Err.is
    (sym c.cause_of.ensures ∙ c.in-Some.is)

pub returns-in-Some-clause-crash : goal.returns-in-Some-clause-crash
returns-in-Some-clause-crash g c =
    let s = c.args.self.now in
    let l = c.load_against in
    load_crash g.N.Named.table g.N.Named.faults c.args.site c.args.pass.now (parts_of g.D.LogDisk.story g.D.LogDisk.faults s.store s.locks s.log)
    c.requires.keeps l.result l.new.self.live l.new.self.gate (g.D.LogDisk.story l.new.self.disk) (g.D.LogDisk.faults l.new.self.disk)
    (against g (goal.at.returns-in-Some-clause-crash g c).After-load_against) c.push_ending.new.other
