use Rattle.std.proofs.Common.{Option, ap, refl, ◌∙◌}
use Rattle.std.specs.Prelude.{is_some}
use Rattle.dm_event.specs.declared.actor.Actor.TheVariants.{Session}
use Rattle.dm_site.proofs.Catching.{refreshes_none, refreshes_twice}
use Rattle.dm_site.proofs.Coming.{went_nowhere}
use Rattle.dm_site.proofs.Granted.{cause_since, count_since, crash_then, in_since, line_since, part_on, pass_on, rested_twice, routed_on, told_since}
use Rattle.dm_invariant.proofs.Passing.{went_twice}
use Rattle.dm_desk.specs.declared.answers.GrantAnswer.{GrantAnswer}
use Rattle.dm_site.proofs.site.Site.grant.Goals as goal

pub loop-init : goal.loop-init
loop-init g c = (refreshes_none c.args.self.now, went_nowhere c.args.own.now, refl)

pub grant_once-requires-clause-own : goal.grant_once-requires-clause-own
grant_once-requires-clause-own g c = pass_on _ c.args.on.session _ _ c.loop.invariant.1 c.requires.own

pub grant_once-requires-clause-routed : goal.grant_once-requires-clause-routed
grant_once-requires-clause-routed g c = routed_on c.args.on c.args.own.now c.loop.own c.loop.invariant.2 c.requires.routed

pub grant_once-requires-clause-part : goal.grant_once-requires-clause-part
grant_once-requires-clause-part g c = part_on _ _ c.args.part c.loop.invariant.1 c.requires.part

pub loop-preserved : goal.loop-preserved
loop-preserved g c =
    let more = c.in-Ok-None.ensures.more (ap (λ (o : Option GrantAnswer). is_some o) c.in-Ok-None.field-0-is) in (
      refreshes_twice {D = g.row.D.Denot} _ _ _ c.loop.invariant.0 more.0,
      went_twice _ _ _ c.loop.invariant.1 c.grant_once.ensures.own,
      rested_twice (Session c.args.on.session) c.args.own.now c.loop.own c.grant_once.new.own c.loop.invariant.2 more.1,
    )

pub returns-in-Ok-Some-clause-same : goal.returns-in-Ok-Some-clause-same
returns-in-Ok-Some-clause-same g c = in_since {D = g.row.D.Denot} _ _ c.loop.invariant.0 c.grant_once.new.self c.grant_once.ensures.same

pub returns-in-Ok-Some-clause-own : goal.returns-in-Ok-Some-clause-own
returns-in-Ok-Some-clause-own g c = went_twice _ _ _ c.loop.invariant.1 c.grant_once.ensures.own

pub returns-in-Ok-Some-clause-ok : goal.returns-in-Ok-Some-clause-ok
returns-in-Ok-Some-clause-ok g c =
    told_since {D = g.row.D.Denot} _ _ c.loop.invariant.0 c.in-Ok-Some.field-0 c.in-Ok-Some.answer c.in-Ok-Some.field-0-is c.grant_once.new.self.pass
    c.args.on c.args.part c.args.own.now c.loop.own c.grant_once.new.own c.loop.invariant.2 c.in-Ok-Some.ensures.ok

pub returns-in-Ok-Some-clause-line : goal.returns-in-Ok-Some-clause-line
returns-in-Ok-Some-clause-line g c =
    line_since {D = g.row.D.Denot} _ _ c.loop.invariant.0 c.in-Ok-Some.field-0 c.in-Ok-Some.answer c.in-Ok-Some.field-0-is c.grant_once.new.self.locks
    c.in-Ok-Some.ensures.line

pub returns-in-Ok-Some-clause-count : goal.returns-in-Ok-Some-clause-count
returns-in-Ok-Some-clause-count g c = count_since {D = g.row.D.Denot} _ _ c.loop.invariant.0 g.D.LogDisk.faults (g.D.LogDisk.faults c.grant_once.new.self.disk)
    c.grant_once.ensures.count

pub returns-in-Ok-Some-clause-cause : goal.returns-in-Ok-Some-clause-cause
returns-in-Ok-Some-clause-cause g c =
    cause_since {D = g.row.D.Denot} _ _ c.loop.invariant.0 c.in-Ok-Some.field-0 c.in-Ok-Some.answer c.in-Ok-Some.field-0-is g.D.LogDisk.story
    g.D.LogDisk.faults (g.D.LogDisk.faults c.grant_once.new.self.disk) c.in-Ok-Some.ensures.cause

pub returns-in-Ok-Some-clause-crash : goal.returns-in-Ok-Some-clause-crash
returns-in-Ok-Some-clause-crash g c =
    let n = c.grant_once in
    crash_then {D = g.row.D.Denot} _ _ c.loop.invariant.0 g.D.LogDisk.story n.new.self.pass (g.D.LogDisk.story n.new.self.disk) n.ensures.crash

pub returns-in-Err-clause-same : goal.returns-in-Err-clause-same
returns-in-Err-clause-same g c = in_since {D = g.row.D.Denot} _ _ c.loop.invariant.0 c.grant_once.new.self c.grant_once.ensures.same

pub returns-in-Err-clause-own : goal.returns-in-Err-clause-own
returns-in-Err-clause-own g c = went_twice _ _ _ c.loop.invariant.1 c.grant_once.ensures.own

pub returns-in-Err-clause-err : goal.returns-in-Err-clause-err
returns-in-Err-clause-err g c =
    rested_twice (Session c.args.on.session) c.args.own.now c.loop.own c.grant_once.new.own c.loop.invariant.2 c.in-Err.ensures.err

pub returns-in-Err-clause-waits : goal.returns-in-Err-clause-waits
returns-in-Err-clause-waits g c = c.in-Err.ensures.waits ∙ c.loop.invariant.0.locks

pub returns-in-Err-clause-count : goal.returns-in-Err-clause-count
returns-in-Err-clause-count g c = count_since {D = g.row.D.Denot} _ _ c.loop.invariant.0 g.D.LogDisk.faults (g.D.LogDisk.faults c.grant_once.new.self.disk)
    c.grant_once.ensures.count

pub returns-in-Err-clause-crash : goal.returns-in-Err-clause-crash
returns-in-Err-clause-crash g c =
    let n = c.grant_once in
    crash_then {D = g.row.D.Denot} _ _ c.loop.invariant.0 g.D.LogDisk.story n.new.self.pass (g.D.LogDisk.story n.new.self.disk) n.ensures.crash
