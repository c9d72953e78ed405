use Rattle.std.proofs.Common.{◌∙◌, subst, sym}
use Rattle.dm_event.specs.declared.actor.Actor.TheVariants.{Session}
use Rattle.dm_site.proofs.Coming.{answered_since, begins_after, begins_locked, begins_nothing, counted_met, routed_since, sees_twice, went_nowhere, went_seeing}
use Rattle.dm_invariant.proofs.Passing.{went_twice}
use Rattle.dm_site.specs.Begins.{Begins}
use Rattle.dm_invariant.specs.Stations.{Station}
use Rattle.dm_site.proofs.site.Site.begin.Goals as goal

pub catch_up-requires-clause-counted : goal.catch_up-requires-clause-counted
catch_up-requires-clause-counted g c =
    let m = c.meet_own.ensures in
    counted_met {D = g.row.D.Denot} _ _ _ _ _ c.args.txn c.args.keys c.args.min.now c.args.self.now.number c.self.view_is c.self.invariant m.same m.fixed m.met
    c.requires.own.1 m.own c.requires.routed

pub returns-in-Ok-Reached-clause-ok : goal.returns-in-Ok-Reached-clause-ok
returns-in-Ok-Reached-clause-ok g c =
    let m = c.meet_own in
    let u = c.catch_up in
    answered_since c.args.self.now.number u.new.self.number c.begin_here.new.self.pass c.args.txn c.args.keys c.args.min.now c.args.own.now u.new.own
    c.begin_here.new.own c.begin_here.result (u.ensures.same.number ∙ m.ensures.same.number)
    (sees_twice (Session c.args.txn.session) c.args.own.now m.new.own u.new.own c.requires.own.1 m.ensures.own u.ensures.own) c.begin_here.ensures.ok

pub returns-in_err-overlay-clause-same : goal.returns-in_err-overlay-clause-same
returns-in_err-overlay-clause-same g c = begins_nothing {D = g.row.D.Denot} _

pub returns-in_err-overlay-clause-own : goal.returns-in_err-overlay-clause-own
returns-in_err-overlay-clause-own g c = went_nowhere _

pub returns-in_err-declared-clause-same : goal.returns-in_err-declared-clause-same
returns-in_err-declared-clause-same g c = begins_nothing {D = g.row.D.Denot} _

pub returns-in_err-declared-clause-own : goal.returns-in_err-declared-clause-own
returns-in_err-declared-clause-own g c = went_nowhere _

pub begin_here-requires-clause-routed : goal.begin_here-requires-clause-routed
begin_here-requires-clause-routed g c =
    let m = c.meet_own in
    let u = c.catch_up in
    routed_since _ _ c.args.txn c.args.keys c.args.min.now c.args.own.now u.new.own (u.ensures.same.number ∙ m.ensures.same.number)
    (sees_twice (Session c.args.txn.session) c.args.own.now m.new.own u.new.own c.requires.own.1 m.ensures.own u.ensures.own) c.requires.routed

pub returns-in-Ok-Reached-clause-same : goal.returns-in-Ok-Reached-clause-same
returns-in-Ok-Reached-clause-same g c =
    begins_after {D = g.row.D.Denot} _ _ _ _ c.meet_own.ensures.same c.catch_up.ensures.same c.begin_here.ensures.same

pub returns-in-Ok-Reached-clause-own : goal.returns-in-Ok-Reached-clause-own
returns-in-Ok-Reached-clause-own g c =
    let m = c.meet_own in
    let u = c.catch_up in
    went_twice _ _ _ (went_seeing _ _ m.ensures.own) (went_twice _ _ _ (went_seeing _ _ u.ensures.own) c.begin_here.ensures.own)

pub returns-in-Ok-Down-clause-same : goal.returns-in-Ok-Down-clause-same
returns-in-Ok-Down-clause-same g c =
    subst (λ (station : Station g.row.D.Denot). Begins c.args.self.now station) (sym c.leave_line.ensures)
    (begins_locked {D = g.row.D.Denot} _ _ c.catch_up.new.self _ c.meet_own.ensures.same c.catch_up.ensures.same)

pub returns-in-Ok-Down-clause-own : goal.returns-in-Ok-Down-clause-own
returns-in-Ok-Down-clause-own g c = went_twice _ _ _ (went_seeing _ _ c.meet_own.ensures.own) (went_seeing _ _ c.catch_up.ensures.own)

pub returns-in-Err-clause-same : goal.returns-in-Err-clause-same
returns-in-Err-clause-same g c =
    begins_after {D = g.row.D.Denot} _ _ _ _ c.meet_own.ensures.same c.catch_up.ensures.same (begins_nothing c.catch_up.new.self)

pub returns-in-Err-clause-own : goal.returns-in-Err-clause-own
returns-in-Err-clause-own g c = went_twice _ _ _ (went_seeing _ _ c.meet_own.ensures.own) (went_seeing _ _ c.catch_up.ensures.own)
