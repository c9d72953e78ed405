use Rattle.std.proofs.Common.{ap, refl}
use Rattle.dm_event.specs.declared.step.Step.TheVariants.{Restart}
use Rattle.dm_invariant.specs.Keeping.{parts_of}
use Rattle.dm_site.proofs.Resuming.{awaits_here, clean_for_now, failed_alike, fits_now, known_now, loads, may_load, records_now, stands_now, start_crash}
use Rattle.dm_site.proofs.site.Site.reload.Goals as goal

pub load-loaded-requires-clause-may : goal.load-loaded-requires-clause-may
load-loaded-requires-clause-may g c =
    may_load {D = g.row.D.Denot} _ _ c.args.own.now c.args.on c.self.view_is c.self.invariant c.requires.met c.requires.routed

pub load-loaded-requires-clause-pending : goal.load-loaded-requires-clause-pending
load-loaded-requires-clause-pending g c = awaits_here {D = g.row.D.Denot} _ _ c.self.view_is _ c.requires.pending

pub returns-in-Ok-Err-clause-site : goal.returns-in-Ok-Err-clause-site
returns-in-Ok-Err-clause-site g c =
    let l = c.load-loaded in
    failed_alike {D = g.row.D.Denot} _ _ c.args.own.now c.args.on c.self.view_is c.self.invariant c.requires.met c.requires.routed
    l.new.self.store.installed l.new.self.locks l.result c.in-Ok-Err.field-0 c.in-Ok-Err.cause c.in-Ok-Err.is (rw c.in-Ok-Err.is at c.in-Ok-Err.field-0-is)
    (ap (λ store. store.installed) l.ensures.store) l.ensures.let_go refl

pub start-requires-clause-fits : goal.start-requires-clause-fits
start-requires-clause-fits g c =
    let l = c.load-loaded in
    let x =
    loads (λ f. f.now) c.args.pending c.args.own.now l.new.own c.self.inside.pass l.new.pass c.args.frames.now _ _ _ l.result c.in-Ok-Ok.field-0
    c.in-Ok-Ok.found c.in-Ok-Ok.is (rw c.in-Ok-Ok.is at c.in-Ok-Ok.field-0-is) _ l.ensures.ok l.ensures.stands l.ensures.records l.ensures.clean
    l.ensures.no_doubt in
    fits_now {D = g.row.D.Denot} _ _ c.args.own.now c.args.on c.self.view_is x c.requires.pending

pub start-requires-clause-clean : goal.start-requires-clause-clean
start-requires-clause-clean g c =
    let l = c.load-loaded in
    let x =
    loads (λ f. f.now) c.args.pending c.args.own.now l.new.own c.self.inside.pass l.new.pass c.args.frames.now _ _ _ l.result c.in-Ok-Ok.field-0
    c.in-Ok-Ok.found c.in-Ok-Ok.is (rw c.in-Ok-Ok.is at c.in-Ok-Ok.field-0-is) _ l.ensures.ok l.ensures.stands l.ensures.records l.ensures.clean
    l.ensures.no_doubt in
    clean_for_now {D = g.row.D.Denot} _ _ c.args.own.now c.args.on c.self.view_is x c.requires.pending c.requires.may

pub start-requires-clause-stands : goal.start-requires-clause-stands
start-requires-clause-stands g c =
    let l = c.load-loaded in
    let x =
    loads (λ f. f.now) c.args.pending c.args.own.now l.new.own c.self.inside.pass l.new.pass c.args.frames.now _ _ _ l.result c.in-Ok-Ok.field-0
    c.in-Ok-Ok.found c.in-Ok-Ok.is (rw c.in-Ok-Ok.is at c.in-Ok-Ok.field-0-is) _ l.ensures.ok l.ensures.stands l.ensures.records l.ensures.clean
    l.ensures.no_doubt in
    stands_now {D = g.row.D.Denot} _ _ c.args.own.now c.args.on c.self.view_is x c.requires.pending c.requires.frames

pub start-requires-clause-records : goal.start-requires-clause-records
start-requires-clause-records g c =
    let l = c.load-loaded in
    let x =
    loads (λ f. f.now) c.args.pending c.args.own.now l.new.own c.self.inside.pass l.new.pass c.args.frames.now _ _ _ l.result c.in-Ok-Ok.field-0
    c.in-Ok-Ok.found c.in-Ok-Ok.is (rw c.in-Ok-Ok.is at c.in-Ok-Ok.field-0-is) _ l.ensures.ok l.ensures.stands l.ensures.records l.ensures.clean
    l.ensures.no_doubt in
    records_now {D = g.row.D.Denot} _ _ c.args.own.now c.args.on c.self.view_is x c.requires.pending c.requires.frames

pub start-requires-clause-known : goal.start-requires-clause-known
start-requires-clause-known g c =
    let l = c.load-loaded in
    let x =
    loads (λ f. f.now) c.args.pending c.args.own.now l.new.own c.self.inside.pass l.new.pass c.args.frames.now _ _ _ l.result c.in-Ok-Ok.field-0
    c.in-Ok-Ok.found c.in-Ok-Ok.is (rw c.in-Ok-Ok.is at c.in-Ok-Ok.field-0-is) _ l.ensures.ok l.ensures.stands l.ensures.records l.ensures.clean
    l.ensures.no_doubt in
    let parts = parts_of g.D.LogDisk.story g.D.LogDisk.faults l.new.self.store l.new.self.locks l.new.self.log in
    known_now {D = g.row.D.Denot} _ _ c.args.own.now c.args.on c.self.view_is x c.requires.pending {parts = parts} l.ensures.keeps c.requires.known
    c.requires.kept

pub returns-clause-crash : goal.returns-clause-crash
returns-clause-crash g c =
    let l = c.load-loaded in
    let x =
    loads (λ f. f.now) c.args.pending c.args.own.now l.new.own c.self.inside.pass l.new.pass c.args.frames.now _ _ _ l.result c.in-Ok-Ok.field-0
    c.in-Ok-Ok.found c.in-Ok-Ok.is (rw c.in-Ok-Ok.is at c.in-Ok-Ok.field-0-is) _ l.ensures.ok l.ensures.stands l.ensures.records l.ensures.clean
    l.ensures.no_doubt in
    let parts = parts_of g.D.LogDisk.story g.D.LogDisk.faults l.new.self.store l.new.self.locks l.new.self.log in
    start_crash {D = g.row.D.Denot} _ _ c.args.own.now c.args.on c.self.view_is x {parts = parts} g.D.LogDisk.story l.ensures.keeps c.start.result
    c.start.new.own c.start.new.pass (λ vector. Restart c.self.inside.number vector c.in-Ok-Ok.found) _ _ _ c.start.ensures.ok c.start.ensures.err
    (ap (λ log. g.D.LogDisk.story log.disk) c.start.ensures.log) l.ensures.crash
