use Rattle.std.proofs.Common.{refl}
use Rattle.dm_site.proofs.Bodies.{site_met}
use Rattle.dm_site.proofs.Finishing.{crash_here}
use Rattle.dm_site.proofs.Resuming.{crash_restart, may_still, own_goes, pass_goes, pass_stays, told_restart}
use Rattle.dm_invariant.proofs.Passing.{given_back}
use Rattle.dm_site.proofs.site.Site.restart.Goals as goal

pub invariant_of-self : goal.invariant_of-self
invariant_of-self g c =
    let t = c.enter_both-turn in
    site_met {D = g.row.D.Denot} _ _ c.args.own.now c.self.view_is c.self.invariant t.ensures.turned t.ensures.met t.new.other t.ensures.other

pub reload-requires-clause-may : goal.reload-requires-clause-may
reload-requires-clause-may g c =
    let t = c.enter_both-turn in
    let own = given_back c.args.own.now t.new.own c.leave.new.own t.result.actors t.result.seen t.ensures.own t.ensures.actors c.leave.ensures.own in
    may_still {D = g.row.D.Denot} _ _ c.args.own.now c.self.view_is c.self.invariant t.ensures.turned t.ensures.met c.args.on c.requires.own.1 c.leave.new.own
    t.new.other own t.ensures.other c.requires.may

pub invariant_of-self-in-Err : goal.invariant_of-self-in-Err
invariant_of-self-in-Err g c =
    let t = c.enter_both-turn in
    site_met {D = g.row.D.Denot} _ _ c.args.own.now c.self.view_is c.self.invariant t.ensures.turned t.ensures.met t.new.other t.ensures.other

pub returns-in-Ok-clause-pass : goal.returns-in-Ok-clause-pass
returns-in-Ok-clause-pass g c =
    let t = c.enter_both-turn in
    let own = given_back c.args.own.now t.new.own c.leave.new.own t.result.actors t.result.seen t.ensures.own t.ensures.actors c.leave.ensures.own in
    pass_goes {D = g.row.D.Denot} _ _ c.args.own.now c.self.view_is c.self.invariant t.ensures.turned t.ensures.met c.args.on c.requires.own.1 c.leave.new.own
    t.new.other own t.ensures.other c.reload.result c.reload.new.own c.reload.new.self.pass c.reload.ensures.ok c.reload.ensures.err

pub returns-in-Ok-clause-own : goal.returns-in-Ok-clause-own
returns-in-Ok-clause-own g c =
    let t = c.enter_both-turn in
    let own = given_back c.args.own.now t.new.own c.leave.new.own t.result.actors t.result.seen t.ensures.own t.ensures.actors c.leave.ensures.own in
    own_goes {D = g.row.D.Denot} _ _ c.args.own.now c.self.view_is c.self.invariant t.ensures.turned t.ensures.met c.args.on c.requires.own.1 c.leave.new.own
    t.new.other own t.ensures.other c.reload.result c.reload.new.own c.reload.new.self.pass c.reload.ensures.ok c.reload.ensures.err

pub returns-in-Ok-clause-ok : goal.returns-in-Ok-clause-ok
returns-in-Ok-clause-ok g c =
    let t = c.enter_both-turn in
    let own = given_back c.args.own.now t.new.own c.leave.new.own t.result.actors t.result.seen t.ensures.own t.ensures.actors c.leave.ensures.own in
    told_restart {D = g.row.D.Denot} _ _ c.args.own.now c.self.view_is c.self.invariant t.ensures.turned t.ensures.met c.args.on c.requires.own.1
    c.leave.new.own
    t.new.other own t.ensures.other c.reload.result c.reload.new.own c.reload.new.self.pass c.reload.ensures.ok c.reload.ensures.err

pub returns-in-Ok-clause-crash : goal.returns-in-Ok-clause-crash
returns-in-Ok-clause-crash g c =
    let t = c.enter_both-turn in
    let own = given_back c.args.own.now t.new.own c.leave.new.own t.result.actors t.result.seen t.ensures.own t.ensures.actors c.leave.ensures.own in
    crash_restart {D = g.row.D.Denot} _ _ c.args.own.now c.self.view_is c.self.invariant t.ensures.turned t.ensures.met c.args.on c.requires.own.1
    c.leave.new.own
    t.new.other own t.ensures.other c.reload.result c.reload.new.own c.reload.new.self.pass c.reload.ensures.ok c.reload.ensures.err
    g.D.LogDisk.story _ _ refl refl c.reload.ensures.crash

pub returns-in-Err-clause-pass : goal.returns-in-Err-clause-pass
returns-in-Err-clause-pass g c =
    let t = c.enter_both-turn in
    let own = given_back c.args.own.now t.new.own c.leave.new.own t.result.actors t.result.seen t.ensures.own t.ensures.actors c.leave.ensures.own in
    pass_stays {D = g.row.D.Denot} _ _ c.args.own.now c.self.view_is c.self.invariant t.ensures.turned t.ensures.met c.args.on c.requires.own.1 c.leave.new.own
    t.new.other own t.ensures.other

pub returns-in-Err-clause-crash : goal.returns-in-Err-clause-crash
returns-in-Err-clause-crash g c =
    crash_here {D = g.row.D.Denot} g.D.LogDisk.story _ _ c.self.view_is c.self.invariant refl c.enter_both-turn.new.other _ refl
