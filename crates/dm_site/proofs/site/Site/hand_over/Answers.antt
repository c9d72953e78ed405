use Rattle.dm_event.specs.declared.actor.Actor.TheVariants.{Session}
use Rattle.dm_invariant.specs.Writing.{step_after}
use Rattle.dm_site.proofs.Outcomes.{live_crash}
use Rattle.dm_site.proofs.Writing.{appends_live, came_live, fails_live, made_live}
use Rattle.dm_site.proofs.site.Site.hand_over.Goals as goal

pub append_live-requires-clause-may : goal.append_live-requires-clause-may
append_live-requires-clause-may g c =
    let l = c.make_live in
    let was = c.args.self.now in
    let met = made_live was l.new.self c.args.on c.args.own.now l.new.own c.in-Ok-None.field-0 c.in-Ok-None.field-0-is c.in-Ok-None.ensures.ok in
    appends_live {D = g.row.D.Denot} was _ l.new.self c.self.view_is c.self.invariant l.ensures.number c.args.on c.args.own.now l.new.own met c.args.pending
    c.requires.met c.requires.may

pub returns-in_err-done-in-Ok-None-clause-crash : goal.returns-in_err-done-in-Ok-None-clause-crash
returns-in_err-done-in-Ok-None-clause-crash g c =
    let l = c.make_live in
    let was = c.args.self.now in
    let met = made_live was l.new.self c.args.on c.args.own.now l.new.own c.in-Ok-None.field-0 c.in-Ok-None.field-0-is c.in-Ok-None.ensures.ok in
    let a = c.append_live in
    live_crash {D = g.row.D.Denot} was.number _ l.new.self c.self.view_is c.self.invariant l.ensures.number (Session c.args.on.session) c.args.own.now
    l.new.own was.pass a.new.self.pass met a.ensures.same.pass _ _ _ l.ensures.crash a.ensures.crash

pub returns-in_ok-done-in-Ok-None-clause-done : goal.returns-in_ok-done-in-Ok-None-clause-done
returns-in_ok-done-in-Ok-None-clause-done g c =
    let l = c.make_live in
    let was = c.args.self.now in
    let met = made_live was l.new.self c.args.on c.args.own.now l.new.own c.in-Ok-None.field-0 c.in-Ok-None.field-0-is c.in-Ok-None.ensures.ok in
    let a = c.append_live in
    let d = c.in_ok-done-in-Ok-None in
    came_live {D = g.row.D.Denot} was _ l.new.self c.self.view_is c.self.invariant l.ensures.number c.args.on c.args.own.now l.new.own met
    (λ site. step_after site c.args.on c.args.pending d.done) a.new.own a.new.self.pass d.ensures.done

pub returns-in_ok-done-in-Ok-None-clause-crash : goal.returns-in_ok-done-in-Ok-None-clause-crash
returns-in_ok-done-in-Ok-None-clause-crash g c =
    let l = c.make_live in
    let was = c.args.self.now in
    let met = made_live was l.new.self c.args.on c.args.own.now l.new.own c.in-Ok-None.field-0 c.in-Ok-None.field-0-is c.in-Ok-None.ensures.ok in
    let a = c.append_live in
    live_crash {D = g.row.D.Denot} was.number _ l.new.self c.self.view_is c.self.invariant l.ensures.number (Session c.args.on.session) c.args.own.now
    l.new.own was.pass a.new.self.pass met a.ensures.same.pass _ _ _ l.ensures.crash a.ensures.crash

pub returns-in-Ok-Some-clause-same : goal.returns-in-Ok-Some-clause-same
returns-in-Ok-Some-clause-same g c =
    let l = c.make_live in
    fails_live {D = g.row.D.Denot} c.args.self.now l.new.self c.args.on c.args.own.now l.new.own c.in-Ok-Some.field-0 c.in-Ok-Some.cause
    c.in-Ok-Some.field-0-is l.ensures.number l.ensures.installed c.in-Ok-Some.ensures.ok
