use Rattle.std.proofs.Common.{◌∙◌}
use Rattle.dm_event.specs.declared.actor.Actor.TheVariants.{Session}
use Rattle.dm_site.proofs.Catching.{refreshes_twice}
use Rattle.dm_site.proofs.Granted.{crash_more, crash_then, down_since, from_since, rested_seeing, rested_twice}
use Rattle.dm_invariant.proofs.Passing.{met_own, met_rested}
use Rattle.dm_site.proofs.site.Site.grant_once.Goals as goal

pub returns-in-Ok-clause-ok : goal.returns-in-Ok-clause-ok
returns-in-Ok-clause-ok g c =
    let k = c.grant_check in
    from_since {D = g.row.D.Denot} _ _ k.ensures.same c.grant_now.new.self.pass c.args.on c.args.part c.args.own.now k.new.own c.grant_now.new.own
    c.in-Ok.answer
    (met_rested _ _ _ _ _ _ k.ensures.met) c.in-Ok.ensures.ok

pub returns-in-Ok-clause-crash : goal.returns-in-Ok-clause-crash
returns-in-Ok-clause-crash g c =
    let n = c.grant_now in
    crash_then {D = g.row.D.Denot} _ _ c.grant_check.ensures.same g.D.LogDisk.story n.new.self.pass (g.D.LogDisk.story n.new.self.disk) n.ensures.crash

pub returns-in-Err-clause-crash : goal.returns-in-Err-clause-crash
returns-in-Err-clause-crash g c =
    let n = c.grant_now in
    crash_then {D = g.row.D.Denot} _ _ c.grant_check.ensures.same g.D.LogDisk.story n.new.self.pass (g.D.LogDisk.story n.new.self.disk) n.ensures.crash

pub returns-in-Ok-Reached-clause-more : goal.returns-in-Ok-Reached-clause-more
returns-in-Ok-Reached-clause-more g c =
    let k = c.grant_check in
    let u = c.catch_up in
    λ n. (
      refreshes_twice {D = g.row.D.Denot} _ _ _ k.ensures.same u.ensures.same,
      rested_twice (Session c.args.on.session) c.args.own.now k.new.own u.new.own (met_rested _ _ _ _ _ _ k.ensures.met)
          (rested_seeing (Session c.args.on.session) k.new.own u.new.own ((met_own _ _ _ _ _ _ k.ensures.met).actors ∙ c.requires.own.1) u.ensures.own),
    )

pub returns-in-Ok-Reached-clause-crash : goal.returns-in-Ok-Reached-clause-crash
returns-in-Ok-Reached-clause-crash g c =
    crash_more {D = g.row.D.Denot} g.D.LogDisk.story c.args.self.now c.grant_check.new.self c.catch_up.new.self c.catch_up.ensures.same
    c.grant_check.ensures.crash

pub returns-in-Ok-Down-clause-ok : goal.returns-in-Ok-Down-clause-ok
returns-in-Ok-Down-clause-ok g c =
    let k = c.grant_check in
    let u = c.catch_up in
    down_since {D = g.row.D.Denot} _ _ k.ensures.same u.new.self u.ensures.same c.args.on c.args.part c.args.own.now k.new.own u.new.own
    c.in-Behind.vector c.in-Ok-Down.field-0 (met_rested _ _ _ _ _ _ k.ensures.met)
    (rested_seeing (Session c.args.on.session) k.new.own u.new.own ((met_own _ _ _ _ _ _ k.ensures.met).actors ∙ c.requires.own.1) u.ensures.own)
    c.in-Ok-Down.field-0-is c.in-Ok-Down.ensures.ok

pub returns-in-Ok-Down-clause-crash : goal.returns-in-Ok-Down-clause-crash
returns-in-Ok-Down-clause-crash g c =
    crash_more {D = g.row.D.Denot} g.D.LogDisk.story c.args.self.now c.grant_check.new.self c.catch_up.new.self c.catch_up.ensures.same
    c.grant_check.ensures.crash

pub returns-in-Err-catch_up-clause-crash : goal.returns-in-Err-catch_up-clause-crash
returns-in-Err-catch_up-clause-crash g c =
    crash_more {D = g.row.D.Denot} g.D.LogDisk.story c.args.self.now c.grant_check.new.self c.catch_up.new.self c.catch_up.ensures.same
    c.grant_check.ensures.crash
