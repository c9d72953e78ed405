use Rattle.std.proofs.Common.{refl, ap}
use Rattle.dm_site.proofs.Releases.{appends_there, crash_after, crash_unwritten, failed_on, fails_there, own_on, told_on}
use Rattle.dm_invariant.specs.Stations.{Station}
use Rattle.dm_site.proofs.site.Site.release.Goals as goal

pub hand_over-requires-clause-may : goal.hand_over-requires-clause-may
hand_over-requires-clause-may g c =
    let r = c.release_check in
    let s = c.self-in-Ready in
    appends_there {D = g.row.D.Denot} _ r.new.self c.args.on c.args.part c.args.own.now r.new.own r.ensures.same r.ensures.met _ s.view_is s.invariant
    c.requires.routed c.in-Ready.epoch c.in-Ready.to c.in-Ready.vector c.in-Ready.ensures.due

pub hand_over-requires-clause-may_fail : goal.hand_over-requires-clause-may_fail
hand_over-requires-clause-may_fail g c =
    let r = c.release_check in
    let s = c.self-in-Ready in
    fails_there {D = g.row.D.Denot} _ r.new.self c.args.on c.args.part c.args.own.now r.new.own r.ensures.same r.ensures.met _ s.view_is s.invariant
    c.requires.routed

pub returns-in-Not-clause-crash : goal.returns-in-Not-clause-crash
returns-in-Not-clause-crash g c =
    let r = c.release_check in
    crash_unwritten {D = g.row.D.Denot} _ r.new.self c.args.on c.args.part c.args.own.now r.new.own r.ensures.same r.ensures.met g.D.LogDisk.story _
    c.self.view_is c.self.invariant refl

pub returns-in-Ok-Ok-clause-own : goal.returns-in-Ok-Ok-clause-own
returns-in-Ok-Ok-clause-own g c =
    let r = c.release_check in
    let h = c.hand_over in
    own_on {D = g.row.D.Denot} _ r.new.self c.args.on c.args.part c.args.own.now r.new.own r.ensures.same r.ensures.met h.new.self h.new.own
    c.in-Ready.epoch c.in-Ready.to c.in-Ready.vector c.in-Ok-Ok.field-0 c.in-Ok-Ok.done c.in-Ok-Ok.field-0-is c.in-Ok-Ok.ensures.done

pub returns-in-Ok-Ok-clause-ok : goal.returns-in-Ok-Ok-clause-ok
returns-in-Ok-Ok-clause-ok g c =
    let r = c.release_check in
    let h = c.hand_over in
    told_on {D = g.row.D.Denot} _ r.new.self c.args.on c.args.part c.args.own.now r.new.own r.ensures.same r.ensures.met h.new.self h.new.own
    c.in-Ready.epoch c.in-Ready.to c.in-Ready.vector c.in-Ok-Ok.field-0 c.in-Ok-Ok.done c.in-Ok-Ok.field-0-is c.in-Ok-Ok.ensures.done
    c.self.inside.number c.told_release.result (ap (λ (at : Station g.row.D.Denot). at.number) c.self.view_is) c.told_release.ensures

pub returns-in-Ok-Ok-clause-crash : goal.returns-in-Ok-Ok-clause-crash
returns-in-Ok-Ok-clause-crash g c =
    let r = c.release_check in
    let s = c.self-in-Ready in
    let h = c.hand_over in
    crash_after {D = g.row.D.Denot} _ r.new.self c.args.on c.args.part c.args.own.now r.new.own r.ensures.same r.ensures.met _ s.view_is s.invariant
    g.D.LogDisk.story _ c.self.view_is c.self.invariant refl h.new.self.pass _ h.ensures.same.pass h.ensures.crash

pub returns-in-Ok-Err-clause-ok : goal.returns-in-Ok-Err-clause-ok
returns-in-Ok-Err-clause-ok g c =
    let r = c.release_check in
    let h = c.hand_over in
    failed_on {D = g.row.D.Denot} _ r.new.self c.args.on c.args.part c.args.own.now r.new.own r.ensures.same r.ensures.met h.new.self h.new.own
    c.in-Ok-Err.field-0 c.in-Ok-Err.cause c.in-Ok-Err.field-0-is c.in-Ok-Err.ensures.failed

pub returns-in-Ok-Err-clause-crash : goal.returns-in-Ok-Err-clause-crash
returns-in-Ok-Err-clause-crash g c =
    let r = c.release_check in
    let s = c.self-in-Ready in
    let h = c.hand_over in
    crash_after {D = g.row.D.Denot} _ r.new.self c.args.on c.args.part c.args.own.now r.new.own r.ensures.same r.ensures.met _ s.view_is s.invariant
    g.D.LogDisk.story _ c.self.view_is c.self.invariant refl h.new.self.pass _ h.ensures.same.pass h.ensures.crash

pub returns-in-Err-clause-crash : goal.returns-in-Err-clause-crash
returns-in-Err-clause-crash g c =
    let r = c.release_check in
    let s = c.self-in-Ready in
    let h = c.hand_over in
    crash_after {D = g.row.D.Denot} _ r.new.self c.args.on c.args.part c.args.own.now r.new.own r.ensures.same r.ensures.met _ s.view_is s.invariant
    g.D.LogDisk.story _ c.self.view_is c.self.invariant refl h.new.self.pass _ h.ensures.same.pass h.ensures.crash
