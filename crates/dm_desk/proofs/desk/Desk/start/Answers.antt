use Rattle.std.proofs.Common.{List, refl, sym, subst}
use Rattle.std.specs.List.{AllByRecursion as Each}
use Rattle.dm_chronicle.specs.Standing.{standing}
use Rattle.dm_record.specs.Bytes.{HasRanges}
use Rattle.dm_record.specs.declared.record.Record.{Record}
use Rattle.dm_desk.proofs.Starting.{each_ranges, fits_turn, own_logged, start_came, start_follows, start_held, start_keeps}
use Rattle.dm_invariant.proofs.Turned.{after_turn, in_turn}
use Rattle.dm_invariant.specs.Keeping.{parts_of}
use Rattle.dm_desk.proofs.desk.Desk.start.Goals as goal

pub planned-requires-clause-fits : goal.planned-requires-clause-fits
planned-requires-clause-fits g c =
    let s = c.args.self.now in
    let t = c.enter_both-turn in
    fits_turn g.N.Named.table g.N.Named.faults c.args.site c.args.session c.args.found c.args.own.now c.args.pass.now
    (parts_of g.D.LogDisk.story g.D.LogDisk.faults s.store s.locks s.log) t.result.seen t.result.fixed t.result.fixed
    c.requires.keeps c.requires.own t.ensures.turned t.ensures.met c.requires.fits

pub planned-requires-clause-own : goal.planned-requires-clause-own
planned-requires-clause-own g c =
    let s = c.args.self.now in
    let t = c.enter_both-turn in
    own_logged g.N.Named.table g.N.Named.faults c.args.site c.args.session c.args.found c.args.own.now c.args.pass.now
    (parts_of g.D.LogDisk.story g.D.LogDisk.faults s.store s.locks s.log) t.result.seen t.result.fixed t.result.fixed
    c.requires.keeps c.requires.own t.ensures.turned t.ensures.met c.requires.fits
    s.log.records c.records.result.now c.records.ensures c.requires.ranges c.requires.known c.requires.records

pub planned-requires-clause-ranges : goal.planned-requires-clause-ranges
planned-requires-clause-ranges g c =
    subst (λ (recs : List Record). Each HasRanges recs) (sym c.records.ensures) (each_ranges c.args.self.now.log.records c.requires.ranges)

pub push_roomy-requires-clause-follows : goal.push_roomy-requires-clause-follows
push_roomy-requires-clause-follows g c =
    let s = c.args.self.now in
    let t = c.enter_both-turn in
    start_follows g.N.Named.table g.N.Named.faults c.args.site c.args.session c.args.found c.args.own.now c.args.pass.now
    (parts_of g.D.LogDisk.story g.D.LogDisk.faults s.store s.locks s.log) t.result.seen t.result.fixed t.result.fixed
    c.requires.keeps c.requires.own t.ensures.turned t.ensures.met c.requires.fits
    (standing t.result) (standing c.planned.new.turn) c.in-Ok.field-0.vector refl refl c.in-Ok.ensures.turn c.in-Ok.ensures.vector

pub push_roomy-requires-clause-room : goal.push_roomy-requires-clause-room
push_roomy-requires-clause-room g c =
    let s = c.args.self.now in
    let t = c.enter_both-turn in
    c.in-Ok.ensures.room (start_held g.N.Named.table g.N.Named.faults c.args.site c.args.session c.args.found c.args.own.now c.args.pass.now
    (parts_of g.D.LogDisk.story g.D.LogDisk.faults s.store s.locks s.log) t.result.seen t.result.fixed t.result.fixed
    c.requires.keeps c.requires.own t.ensures.turned t.ensures.met c.requires.fits
    (standing t.result) (standing c.planned.new.turn) c.in-Ok.field-0.vector refl refl c.in-Ok.ensures.turn c.in-Ok.ensures.vector)

pub returns-in-Ok-clause-keeps : goal.returns-in-Ok-clause-keeps
returns-in-Ok-clause-keeps g c =
    let s = c.args.self.now in
    let t = c.enter_both-turn in
    start_keeps g.N.Named.table g.N.Named.faults c.args.site c.args.session c.args.found c.args.own.now c.args.pass.now
    (parts_of g.D.LogDisk.story g.D.LogDisk.faults s.store s.locks s.log) t.result.seen t.result.fixed t.result.fixed
    c.requires.keeps c.requires.own t.ensures.turned t.ensures.met c.requires.fits
    (standing t.result) (standing c.planned.new.turn) c.in-Ok.field-0.vector refl refl c.in-Ok.ensures.turn c.in-Ok.ensures.vector
    t.new.other c.push_roomy.new.other c.in-Ok.field-0.store c.clear.new.self t.ensures.other c.push_roomy.ensures.other c.requires.clean
    c.requires.stands c.in-Ok.ensures.layout c.in-Ok.ensures.installed c.clear.ensures

pub returns-in-Ok-clause-ok : goal.returns-in-Ok-clause-ok
returns-in-Ok-clause-ok g c =
    let s = c.args.self.now in
    let t = c.enter_both-turn in
    start_came g.N.Named.table g.N.Named.faults c.args.site c.args.session c.args.found c.args.own.now c.args.pass.now
    (parts_of g.D.LogDisk.story g.D.LogDisk.faults s.store s.locks s.log) t.result.seen t.result.fixed t.result.fixed
    c.requires.keeps c.requires.own t.ensures.turned t.ensures.met c.requires.fits
    (standing t.result) (standing c.planned.new.turn) c.in-Ok.field-0.vector refl refl c.in-Ok.ensures.turn c.in-Ok.ensures.vector
    t.new.own t.new.other c.push_roomy.new.own c.push_roomy.new.other t.ensures.actors t.ensures.own t.ensures.other
    c.push_roomy.ensures.own c.push_roomy.ensures.other

pub returns-in-Err-clause-keeps : goal.returns-in-Err-clause-keeps
returns-in-Err-clause-keeps g c =
    let s = c.args.self.now in
    let t = c.enter_both-turn in
    let parts = parts_of g.D.LogDisk.story g.D.LogDisk.faults s.store s.locks s.log in
    after_turn g.N.Named.table g.N.Named.faults c.args.site c.args.pass.now t.new.other parts parts t.result.seen c.requires.keeps t.ensures.other
    (in_turn g.N.Named.table g.N.Named.faults c.args.site c.args.pass.now parts t.result.seen t.result.fixed c.requires.keeps t.ensures.met)
