use Rattle.std.proofs.Common.{ap, refl, sym}
use Rattle.dm_site.proofs.Finishing.{crash_here}
use Rattle.dm_site.proofs.Granted.{grant_may, grant_may_fail, grant_refused, grant_told}
use Rattle.dm_invariant.specs.Stations.{Station}
use Rattle.dm_site.proofs.site.Site.grant_now.Goals as goal

pub returns-in_default-clause-crash : goal.returns-in_default-clause-crash
returns-in_default-clause-crash g c =
    crash_here {D = g.row.D.Denot} g.D.LogDisk.story _ _ c.self.view_is c.self.invariant refl c.args.self.now.pass _
    (ap (λ (at : Station g.row.D.Denot). g.D.LogDisk.story at.disk) (sym c.self.view_is))

pub hand_over-requires-clause-may : goal.hand_over-requires-clause-may
hand_over-requires-clause-may g c =
    grant_may {D = g.row.D.Denot} _ _ c.self.view_is c.self.invariant c.args.own.now c.args.on c.requires.routed c.requires.met c.args.part c.args.epoch
    c.in-Some.epoch c.args.vector c.in-Some.ensures.1 c.requires.due

pub hand_over-requires-clause-may_fail : goal.hand_over-requires-clause-may_fail
hand_over-requires-clause-may_fail g c =
    grant_may_fail {D = g.row.D.Denot} _ _ c.self.view_is c.self.invariant c.args.own.now c.args.on c.requires.routed c.requires.met

pub returns-in-Ok-Ok-clause-ok : goal.returns-in-Ok-Ok-clause-ok
returns-in-Ok-Ok-clause-ok g c =
    grant_told {D = g.row.D.Denot} _ _ c.self.view_is c.args.part c.args.on c.args.own.now c.hand_over.new.own c.hand_over.new.self.pass c.in-Ok-Ok.field-0
    c.in-Some.epoch c.args.vector c.in-Ok-Ok.done c.told_grant.result c.told_grant.ensures c.in-Ok-Ok.field-0-is c.in-Ok-Ok.ensures.done

pub returns-in-Ok-Err-clause-ok : goal.returns-in-Ok-Err-clause-ok
returns-in-Ok-Err-clause-ok g c =
    grant_refused {D = g.row.D.Denot} _ _ c.self.view_is c.args.part c.args.on c.args.own.now c.hand_over.new.own c.hand_over.new.self.pass c.in-Ok-Err.field-0
    c.in-Ok-Err.cause c.in-Ok-Err.field-0-is c.in-Ok-Err.ensures.failed
