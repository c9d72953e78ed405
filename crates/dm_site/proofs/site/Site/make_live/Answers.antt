use Rattle.std.proofs.Common.{refl, sym, ap, ◌∙◌}
use Rattle.dm_site.proofs.Bodies.{site_met}
use Rattle.dm_site.proofs.Finishing.{crash_here}
use Rattle.dm_site.proofs.Writing.{crash_loaded, fails_met, left_err, loaded_fails, none_met}
use Rattle.dm_invariant.proofs.Lively.{met_still}
use Rattle.dm_invariant.proofs.Passing.{given_back}
use Rattle.dm_invariant.specs.Stations.{Station}
use Rattle.dm_site.proofs.site.Site.make_live.Goals as goal

pub returns-then-is_live-clause-ok : goal.returns-then-is_live-clause-ok
returns-then-is_live-clause-ok g c = (
  sym (c.if-is_live.ensures ∙ ap (λ (at : Station g.row.D.Denot). at.live) c.self.view_is),
  refl,
  met_still _ _ c.args.own.now c.args.self.now.pass c.requires.met,
)

pub returns-then-is_live-clause-crash : goal.returns-then-is_live-clause-crash
returns-then-is_live-clause-crash g c =
    crash_here {D = g.row.D.Denot} g.D.LogDisk.story _ _ c.self.view_is c.self.invariant refl c.args.self.now.pass _
    (sym (ap (λ (at : Station g.row.D.Denot). g.D.LogDisk.story at.disk) c.self.view_is))

pub invariant_of-self : goal.invariant_of-self
invariant_of-self g c =
    let t = c.enter_both-turn in
    site_met {D = g.row.D.Denot} _ _ _ c.self.view_is c.self.invariant t.ensures.turned t.ensures.met t.new.other t.ensures.other

pub returns-in_err-frames-clause-err : goal.returns-in_err-frames-clause-err
returns-in_err-frames-clause-err g c =
    let t = c.enter_both-turn in
    let back = given_back c.args.own.now t.new.own c.leave.new.own t.result.actors t.result.seen t.ensures.own t.ensures.actors c.leave.ensures.own in
    left_err {D = g.row.D.Denot} _ _ _ c.self.view_is c.self.invariant t.ensures.turned t.ensures.met t.new.other t.ensures.other c.args.txn.session
    c.requires.own.1 c.leave.new.own back c.from_residual.result

pub returns-in_err-frames-clause-crash : goal.returns-in_err-frames-clause-crash
returns-in_err-frames-clause-crash g c =
    crash_here {D = g.row.D.Denot} g.D.LogDisk.story _ _ c.self.view_is c.self.invariant refl c.enter_both-turn.new.other _ refl

pub load-loaded-requires-clause-keeps : goal.load-loaded-requires-clause-keeps
load-loaded-requires-clause-keeps g c =
    let t = c.enter_both-turn in
    site_met {D = g.row.D.Denot} _ _ _ c.self.view_is c.self.invariant t.ensures.turned t.ensures.met t.new.other t.ensures.other

pub load-loaded-requires-clause-may : goal.load-loaded-requires-clause-may
load-loaded-requires-clause-may g c =
    let t = c.enter_both-turn in
    fails_met {D = g.row.D.Denot} _ _ _ c.self.view_is c.self.invariant t.ensures.turned t.ensures.met t.new.other t.ensures.other c.args.txn
    c.requires.own.1 c.requires.met c.requires.may

pub load-loaded-requires-clause-pending : goal.load-loaded-requires-clause-pending
load-loaded-requires-clause-pending g c =
    let t = c.enter_both-turn in
    none_met {D = g.row.D.Denot} _ _ _ c.self.view_is c.self.invariant t.ensures.turned t.ensures.met t.new.other t.ensures.other c.requires.up

pub returns-in-Ok-Ok-clause-crash : goal.returns-in-Ok-Ok-clause-crash
returns-in-Ok-Ok-clause-crash g c =
    let t = c.enter_both-turn in
    let back = given_back c.args.own.now t.new.own c.leave.new.own t.result.actors t.result.seen t.ensures.own t.ensures.actors c.leave.ensures.own in
    let l = c.load-loaded in
    let x = l.ensures in
    crash_loaded {D = g.row.D.Denot} _ _ _ c.self.view_is c.self.invariant t.ensures.turned t.ensures.met t.new.other t.ensures.other c.args.txn.session
    c.requires.own.1 c.leave.new.own back c.args.txn c.self.inside.desk.locks l.new.self.locks l.new.own l.new.pass l.result x.ok x.failed x.err
    g.D.LogDisk.story refl _ x.crash

pub returns-in-Ok-Err-clause-ok : goal.returns-in-Ok-Err-clause-ok
returns-in-Ok-Err-clause-ok g c =
    let t = c.enter_both-turn in
    let back = given_back c.args.own.now t.new.own c.leave.new.own t.result.actors t.result.seen t.ensures.own t.ensures.actors c.leave.ensures.own in
    let l = c.load-loaded in
    let x = l.ensures in
    loaded_fails {D = g.row.D.Denot} _ _ _ c.self.view_is c.self.invariant t.ensures.turned t.ensures.met t.new.other t.ensures.other c.args.txn.session
    c.requires.own.1 c.leave.new.own back c.args.txn c.self.inside.desk.locks l.new.self.locks l.new.own l.new.pass l.result x.ok x.failed x.err
    c.in-Ok-Err.field-0 c.in-Ok-Err.cause c.in-Ok-Err.is (rw c.in-Ok-Err.is at c.in-Ok-Err.field-0-is) x.let_go refl

pub returns-in-Ok-Err-clause-crash : goal.returns-in-Ok-Err-clause-crash
returns-in-Ok-Err-clause-crash g c =
    let t = c.enter_both-turn in
    let back = given_back c.args.own.now t.new.own c.leave.new.own t.result.actors t.result.seen t.ensures.own t.ensures.actors c.leave.ensures.own in
    let l = c.load-loaded in
    let x = l.ensures in
    crash_loaded {D = g.row.D.Denot} _ _ _ c.self.view_is c.self.invariant t.ensures.turned t.ensures.met t.new.other t.ensures.other c.args.txn.session
    c.requires.own.1 c.leave.new.own back c.args.txn c.self.inside.desk.locks l.new.self.locks l.new.own l.new.pass l.result x.ok x.failed x.err
    g.D.LogDisk.story refl _ x.crash

pub returns-clause-crash : goal.returns-clause-crash
returns-clause-crash g c =
    let t = c.enter_both-turn in
    let back = given_back c.args.own.now t.new.own c.leave.new.own t.result.actors t.result.seen t.ensures.own t.ensures.actors c.leave.ensures.own in
    let l = c.load-loaded in
    let x = l.ensures in
    crash_loaded {D = g.row.D.Denot} _ _ _ c.self.view_is c.self.invariant t.ensures.turned t.ensures.met t.new.other t.ensures.other c.args.txn.session
    c.requires.own.1 c.leave.new.own back c.args.txn c.self.inside.desk.locks l.new.self.locks l.new.own l.new.pass l.result x.ok x.failed x.err
    g.D.LogDisk.story refl _ x.crash
