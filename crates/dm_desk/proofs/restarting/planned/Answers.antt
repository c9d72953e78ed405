use Rattle.dm_chronicle.specs.Standing.{standing}
use Rattle.dm_desk.proofs.Starting.{plan_past, plan_whole, plan_vector, plan_installed}
use Rattle.dm_desk.proofs.restarting.planned.Goals as goal

pub plan-requires-clause-past : goal.plan-requires-clause-past
plan-requires-clause-past c =
    let k = c.kept-book in
    plan_past (standing c.args.turn.now) k.result.now c.steps-steps.result.now c.args.site c.args.found k.ensures.fixed k.ensures.list
    c.steps-steps.ensures.same c.steps-steps.ensures.legal c.requires.there c.requires.fits
    c.plans_of_histories.ensures.installs c.floor_with_kept-upto.result c.deref.result.now c.in_ok-past.past.items c.deref.ensures.value c.in_ok-past.ensures

pub plan-requires-clause-whole : goal.plan-requires-clause-whole
plan-requires-clause-whole c =
    let k = c.kept-book in
    plan_whole (standing c.args.turn.now) k.result.now c.steps-steps.result.now c.args.site c.args.found k.ensures.fixed k.ensures.list
    c.steps-steps.ensures.same c.steps-steps.ensures.legal c.requires.there c.requires.fits
    c.floor_with_kept-upto.result c.deref.result.now c.in_ok-past.past.items c.args.own.now c.schema.result.now
    c.deref.ensures.value c.in_ok-past.ensures c.floor_with_kept-upto.ensures c.requires.own c.schema.ensures

pub returns-clause-vector : goal.returns-clause-vector
returns-clause-vector c =
    let k = c.kept-book in
    plan_vector (standing c.args.turn.now) k.result.now c.steps-steps.result.now c.args.site c.args.found k.ensures.fixed k.ensures.list
    c.steps-steps.ensures.same c.steps-steps.ensures.legal c.requires.there c.requires.fits
    c.in_ok-plan.plan.vector c.args.own.now c.schema.result.now c.in_ok-plan.ensures.vector c.requires.own c.schema.ensures

pub returns-clause-installed : goal.returns-clause-installed
returns-clause-installed c =
    let k = c.kept-book in
    plan_installed (standing c.args.turn.now) k.result.now c.steps-steps.result.now c.args.site c.args.found k.ensures.fixed k.ensures.list
    c.steps-steps.ensures.same c.steps-steps.ensures.legal c.requires.there c.requires.fits
    c.floor_with_kept-upto.result c.deref.result.now c.in_ok-past.past.items c.in_ok-plan.plan.store.installed c.args.own.now c.in_ok-plan.plan.vector
    c.in_ok-plan.ensures.installed
    c.deref.ensures.value c.in_ok-past.ensures c.floor_with_kept-upto.ensures c.requires.own
    (plan_vector (standing c.args.turn.now) k.result.now c.steps-steps.result.now c.args.site c.args.found k.ensures.fixed k.ensures.list
    c.steps-steps.ensures.same c.steps-steps.ensures.legal c.requires.there c.requires.fits
    c.in_ok-plan.plan.vector c.args.own.now c.schema.result.now c.in_ok-plan.ensures.vector c.requires.own c.schema.ensures)
