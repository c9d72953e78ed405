use Rattle.std.proofs.Common.{◌+◌, ℕ, [], sym, ap, ◌∙◌, subst, Some, None}
use Rattle.std.specs.Prelude.{IfErr, IfOk}
use Rattle.dm_answers.specs.declared.item.Item.TheVariants.{Place}
use Rattle.dm_client.proofs.Answering.{came_early}
use Rattle.dm_client.proofs.Placed.{part_on, place_ready, place_way, ready_sent, routed_there}
use Rattle.dm_client.specs.Moves.{BroughtAs}
use Rattle.dm_event.specs.declared.step.Said.{Said}
use Rattle.dm_event.specs.declared.step.Want.TheVariants as want
use Rattle.dm_invariant.proofs.Passing.{went_twice}
use Rattle.dm_invariant.specs.Stations.{View, Went}
use Rattle.dm_model.specs.Rows.{may_route}
use Rattle.dm_session.specs.Sitting.{Sitting}
use Rattle.dm_sites.proofs.Closing.{there_on}
use Rattle.dm_sites.specs.Stages.{StoppedAs}
use Rattle.dm_sites.specs.Telling.{IsReady}
use Rattle.dm_sites.specs.declared.told.Told.{Told}
use Rattle.dm_client.proofs.placing.place_here.Goals as goal

pub returns-in-Err-clause-ready : goal.returns-in-Err-clause-ready
returns-in-Err-clause-ready g c =
    let a = c.args.session in
    let b = c.route.new.self.pass in
    let r = came_early a.id (a.count + 1) (Place c.args.part c.args.to) a.vector None a.pass b tt c.route.ensures.same.went c.in-Err.ensures.err
    (ap may_route c.requires.unrouted) in
    subst (λ (x : Told). IsReady a.id (a.count + 1) (Place c.args.part c.args.to) a.vector None a.pass b x) (sym c.bare-told.ensures) r

pub returns-in-Ok-clause-ready : goal.returns-in-Ok-clause-ready
returns-in-Ok-clause-ready g c =
    let a = c.args.session in
    let b = c.route.new.self in
    let txn = c.in-Ok.txn in
    let new = c.bring-brought.new.own in
    let s = c.in-Ok.ensures.ok in
    let w1 = c.route.ensures.same.went in
    let lent = c.part-rest.ensures.pass in
    let e = c.bring-brought.ensures in
    let w2 = subst (λ (p : View). Went p new) lent e.went in
    let w = went_twice a.pass b.pass new w1 w2 in
    let there = there_on a.pass new c.args.to w c.requires.there in
    let part = part_on a.pass new c.args.part w c.requires.part in
    let told = c.bare.ensures ∙ ap (λ (o : Said). record { said = o; txn = Some txn; reads = []; vector = None }) c.said_brought-said.ensures in
    let at = subst (λ (k : ℕ). IfOk c.bring-brought.result (BroughtAs txn k c.args.to c.part-rest.result.1 new)) c.requires.entry e.brought in
    let r = ready_sent (Place c.args.part c.args.to) a b (want.Place c.args.part) c.args.to txn new c.bare.result tt
    (place_way a b c.args.part c.args.to txn w1 s) s
    (place_ready txn c.args.part c.args.to a.vector a.vector b.pass new c.bring-brought.result c.bare.result
    (routed_there a b (want.Place c.args.part) c.args.to txn s s.site_due) w2
    (subst (λ (p : View). IfOk c.bring-brought.result (BroughtAs txn c.args.part c.args.to p new)) lent at)
    (subst (λ (p : View). IfErr c.bring-brought.result (StoppedAs txn p new)) lent e.stopped) part there told) in
    subst (λ (p : View). IsReady a.id (a.count + 1) (Place c.args.part c.args.to) a.vector None a.pass p c.bare.result)
    (sym (ap (λ (q : Sitting). q.pass) c.back.ensures)) r
