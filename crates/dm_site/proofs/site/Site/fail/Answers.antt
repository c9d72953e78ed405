use Rattle.std.proofs.Common.{[], ◌∷◌, ◌++◌, refl, inl, inr, subst}
use Rattle.dm_event.specs.declared.actor.Actor.TheVariants.{Session, Site as SiteActor}
use Rattle.dm_event.specs.declared.step.Cause.TheVariants.{Memory}
use Rattle.dm_event.specs.declared.step.Step.TheVariants.{Fail}
use Rattle.dm_site.proofs.Bodies.{dropped_at, site_met}
use Rattle.dm_desk.proofs.Desks.{met_and}
use Rattle.dm_site.proofs.Finishing.{after_fail, came_here, fail_follows, seen_is, serves, still_let_go}
use Rattle.dm_site.proofs.Outcomes.{failed_as}
use Rattle.dm_invariant.proofs.Passing.{came_own, came_pass, given_back, went_to}
use Rattle.dm_invariant.specs.Stations.{Station, Went}
use Rattle.dm_site.proofs.site.Site.fail.Goals as goal

pub invariant_of-self : goal.invariant_of-self
invariant_of-self g c =
    let t = c.enter_both-turn in
    site_met {D = g.row.D.Denot} _ _ _ c.self.view_is c.self.invariant t.ensures.turned t.ensures.met t.new.other t.ensures.other

pub returns-then-not-holds-clause-same : goal.returns-then-not-holds-clause-same
returns-then-not-holds-clause-same g c =
    still_let_go {D = g.row.D.Denot} _ _ c.self.view_is c.run.view_is c.holds.result c.holds.ensures c.if-not-holds.true c.enter_both-turn.new.other

pub returns-then-not-holds-clause-pass : goal.returns-then-not-holds-clause-pass
returns-then-not-holds-clause-pass g c =
    let t = c.enter_both-turn in
    subst (λ (at : Station g.row.D.Denot). Went at.pass t.new.other) c.self.view_is
    (went_to c.self.inside.pass t.new.other t.result.seen t.ensures.met.begins t.ensures.other)

pub returns-then-not-holds-clause-failed : goal.returns-then-not-holds-clause-failed
returns-then-not-holds-clause-failed g c =
    let t = c.enter_both-turn in
    inr (dropped_at {D = g.row.D.Denot} _ _ _ c.self.view_is c.self.invariant t.ensures.turned t.ensures.met c.leave.new.own _ _ c.holds.result
    (seen_is c.args.own.now c.leave.new.own t.result.seen
    (given_back c.args.own.now t.new.own c.leave.new.own t.result.actors t.result.seen t.ensures.own t.ensures.actors c.leave.ensures.own))
    c.run.view_is c.requires.own.1 c.requires.here c.holds.ensures c.if-not-holds.true)

pub push_ending-requires-clause-follows : goal.push_ending-requires-clause-follows
push_ending-requires-clause-follows g c =
    let t = c.enter_both-turn in
    fail_follows
    (serves {D = g.row.D.Denot} _ _ _ c.self.view_is c.self.invariant t.ensures.turned t.ensures.met c.run.view_is c.requires.here c.run.invariant
    c.holds.result c.holds.ensures c.if-not-holds.false)

pub invariant_of-self-2 : goal.invariant_of-self-2
invariant_of-self-2 g c =
    let t = c.enter_both-turn in
    after_fail
    (serves {D = g.row.D.Denot} _ _ _ c.self.view_is c.self.invariant t.ensures.turned t.ensures.met c.run.view_is c.requires.here c.run.invariant
    c.holds.result c.holds.ensures c.if-not-holds.false)
    c.push_ending.new.other c.let_go.new.locks c.let_go.ensures
    (met_and c.self.inside.pass t.new.other c.push_ending.new.other t.result.seen
    (t.result.seen ++ Fail c.self.inside.number c.run.inside.txn Memory ∷ []) t.ensures.other c.push_ending.ensures.other)

pub returns-clause-pass : goal.returns-clause-pass
returns-clause-pass g c =
    let t = c.enter_both-turn in
    let x = c.push_ending in
    came_pass (SiteActor c.args.self.now.number) (Session c.args.run.txn.session) c.args.own.now c.args.self.now.pass x.new.own x.new.other
    (Fail c.args.self.now.number c.args.run.txn Memory)
    (came_here {D = g.row.D.Denot} _ _ _ c.self.view_is c.self.invariant t.ensures.turned t.ensures.met c.run.view_is c.requires.own.1
    (λ site run. Fail site run.txn Memory) x.new.own x.new.other _ refl
    (given_back c.args.own.now t.new.own x.new.own t.result.actors _ t.ensures.own t.ensures.actors x.ensures.own)
    (met_and c.self.inside.pass t.new.other x.new.other t.result.seen _ t.ensures.other x.ensures.other))

pub returns-clause-own : goal.returns-clause-own
returns-clause-own g c =
    let t = c.enter_both-turn in
    let x = c.push_ending in
    came_own (SiteActor c.args.self.now.number) (Session c.args.run.txn.session) c.args.own.now c.args.self.now.pass x.new.own x.new.other
    (Fail c.args.self.now.number c.args.run.txn Memory)
    (came_here {D = g.row.D.Denot} _ _ _ c.self.view_is c.self.invariant t.ensures.turned t.ensures.met c.run.view_is c.requires.own.1
    (λ site run. Fail site run.txn Memory) x.new.own x.new.other _ refl
    (given_back c.args.own.now t.new.own x.new.own t.result.actors _ t.ensures.own t.ensures.actors x.ensures.own)
    (met_and c.self.inside.pass t.new.other x.new.other t.result.seen _ t.ensures.other x.ensures.other))

pub returns-clause-failed : goal.returns-clause-failed
returns-clause-failed g c =
    let t = c.enter_both-turn in
    let x = c.push_ending in
    inl (failed_as _ c.args.run c.args.own.now _ x.new.own x.new.other Memory c.requires.here.site_is
    (came_here {D = g.row.D.Denot} _ _ _ c.self.view_is c.self.invariant t.ensures.turned t.ensures.met c.run.view_is c.requires.own.1
    (λ site run. Fail site run.txn Memory) x.new.own x.new.other _ refl
    (given_back c.args.own.now t.new.own x.new.own t.result.actors _ t.ensures.own t.ensures.actors x.ensures.own)
    (met_and c.self.inside.pass t.new.other x.new.other t.result.seen _ t.ensures.other x.ensures.other)))
