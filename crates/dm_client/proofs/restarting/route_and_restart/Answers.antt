use Rattle.std.proofs.Common.{◌+◌, [], sym, ap, ◌∙◌, subst, Some, None}
use Rattle.dm_answers.specs.declared.item.Item.TheVariants.{Restart}
use Rattle.dm_client.proofs.Answering.{came_early}
use Rattle.dm_client.proofs.Placed.{ready_sent, restart_ready, restart_way, routed_there}
use Rattle.dm_event.specs.declared.step.Said.{Said}
use Rattle.dm_event.specs.declared.step.Want.TheVariants as want
use Rattle.dm_invariant.specs.Stations.{View, Went}
use Rattle.std.specs.Prelude.{IfErr, OnOk}
use Rattle.dm_sites.specs.Stages.{RestartedFor, StoppedAs}
use Rattle.dm_model.specs.Rows.{may_route}
use Rattle.dm_session.specs.Sitting.{Sitting}
use Rattle.dm_sites.proofs.Closing.{there_on}
use Rattle.dm_invariant.proofs.Passing.{went_twice}
use Rattle.dm_sites.specs.Telling.{IsReady}
use Rattle.dm_sites.specs.declared.told.Told.{Told}
use Rattle.dm_client.proofs.restarting.route_and_restart.Goals as goal

pub returns-in-Err-clause-ready : goal.returns-in-Err-clause-ready
returns-in-Err-clause-ready g c =
    let a = c.args.session in
    let b = c.route.new.self.pass in
    let r = came_early a.id (a.count + 1) (Restart c.args.site) a.vector None a.pass b tt c.route.ensures.same.went c.in-Err.ensures.err
    (ap may_route c.requires.unrouted) in
    subst (λ (x : Told). IsReady a.id (a.count + 1) (Restart c.args.site) a.vector None a.pass b x) (sym c.bare-told.ensures) r

pub returns-in-Ok-clause-ready : goal.returns-in-Ok-clause-ready
returns-in-Ok-clause-ready g c =
    let a = c.args.session in
    let b = c.route.new.self in
    let txn = c.in-Ok.txn in
    let new = c.restart_at-restarted.new.own in
    let s = c.in-Ok.ensures.ok in
    let w1 = c.route.ensures.same.went in
    let lent = c.part-rest.ensures.pass in
    let e = c.restart_at-restarted.ensures in
    let w2 = subst (λ (p : View). Went p new) lent e.went in
    let there = there_on a.pass new c.args.site (went_twice a.pass b.pass new w1 w2) c.requires.there in
    let told = c.bare.ensures ∙ ap (λ (o : Said). record { said = o; txn = Some txn; reads = []; vector = None }) c.said_restarted-said.ensures in
    let r = ready_sent (Restart c.args.site) a b want.Restart c.args.site txn new c.bare.result tt (restart_way a b c.args.site txn w1 s) s
    (restart_ready txn c.args.site a.vector a.vector b.pass new c.restart_at-restarted.result c.bare.result
    (routed_there a b want.Restart c.args.site txn s s.site_due) w2
    (subst (λ (p : View). OnOk c.restart_at-restarted.result (RestartedFor txn c.args.site p new)) lent e.restarted)
    (subst (λ (p : View). IfErr c.restart_at-restarted.result (StoppedAs txn p new)) lent e.stopped) there told) in
    subst (λ (p : View). IsReady a.id (a.count + 1) (Restart c.args.site) a.vector None a.pass p c.bare.result) (sym (ap (λ (q : Sitting). q.pass) c.back.ensures)) r
