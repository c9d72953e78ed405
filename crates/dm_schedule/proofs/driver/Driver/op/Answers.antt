use Rattle.std.proofs.Common.{◌<◌, ◌≤◌, [], ap, sym, ◌∙◌, List, length, arith, subst}
use Rattle.dm_body.specs.Answer.{answer_of}
use Rattle.dm_body.specs.Progress.{Progress}
use Rattle.dm_event.specs.declared.limits.TheConstants.{MAX_OPS}
use Rattle.dm_event.specs.declared.step.Op.{Op}
use Rattle.dm_model.specs.Bodies.{Ran, ran_at}
use Rattle.dm_model.specs.Values.{value}
use Rattle.dm_schedule.specs.Drive.{Drive, past, ops_of}
use Rattle.dm_schedule.proofs.DriversKept.{ops_told, ran_told, bodies_after, op_drive}
use Rattle.dm_schedule.proofs.driver.Driver.op.Goals as goal

pub invariant_of-self : goal.invariant_of-self
invariant_of-self c =
    let overlays = c.self.inside.overlays.items in
    let few : c.args.session ≤ length c.self.inside.overlays.items = omega (arith, c.requires.session.1, c.self.inside.overlays.ok.0, c.self.invariant.sessions)
    in
    let told = ops_told c.self.inside.book overlays c.args.session c.index_mut.result.now c.args.self.now c.self.view_is c.requires.session.0 few
    c.index_mut.ensures.value in
    let room = subst (λ (ops : List Op). length ops < MAX_OPS) (sym told) c.requires.room in
    record {
      sessions = c.self.invariant.sessions;
      legal = c.self.invariant.legal;
      bodies = bodies_after c.self.inside.book overlays c.args.session c.index_mut.result.now c.args.self.now c.self.view_is c.requires.session.0 few
          c.index_mut.ensures.value
          c.args.run.now c.args.op.now c.op.new.self c.self.invariant.legal c.self.invariant.bodies c.requires.running (c.op.ensures.turn room);
    }

pub returns-clause-answer : goal.returns-clause-answer
returns-clause-answer c =
    let overlays = c.self.inside.overlays.items in
    let few : c.args.session ≤ length c.self.inside.overlays.items = omega (arith, c.requires.session.1, c.self.inside.overlays.ok.0, c.self.invariant.sessions)
    in
    let told = ops_told c.self.inside.book overlays c.args.session c.index_mut.result.now c.args.self.now c.self.view_is c.requires.session.0 few
    c.index_mut.ensures.value in
    let room = subst (λ (ops : List Op). length ops < MAX_OPS) (sym told) c.requires.room in
    let ran = ran_told c.self.inside.book overlays c.args.session c.index_mut.result.now c.args.self.now c.self.view_is c.requires.session.0 few
    c.index_mut.ensures.value
    c.args.run.now c.self.invariant.legal c.self.invariant.bodies c.requires.running in
    let due = ran_at c.args.self.now.layout (past c.args.self.now) c.args.run.now.begin (ops_of c.args.self.now c.args.session) in
    c.op.ensures.answer room
    ∙ ap (λ (r : Ran). answer_of (λ key. value c.self.inside.book.layout
    (past (record { layout = c.self.inside.book.layout; history = c.self.inside.book.steps; ops = [] })) key c.args.run.now.begin) r c.args.op.now) ran
    ∙ ap (λ (d : Drive). answer_of (λ key. value d.layout (past d) key c.args.run.now.begin) due c.args.op.now) c.self.view_is

pub returns-clause-does : goal.returns-clause-does
returns-clause-does c =
    let overlays = c.self.inside.overlays.items in
    let few : c.args.session ≤ length c.self.inside.overlays.items = omega (arith, c.requires.session.1, c.self.inside.overlays.ok.0, c.self.invariant.sessions)
    in
    let told = ops_told c.self.inside.book overlays c.args.session c.index_mut.result.now c.args.self.now c.self.view_is c.requires.session.0 few
    c.index_mut.ensures.value in
    let room = subst (λ (ops : List Op). length ops < MAX_OPS) (sym told) c.requires.room in
    op_drive c.self.inside.book overlays c.args.session c.index_mut.result.now c.args.self.now c.self.view_is c.requires.session.0 few c.index_mut.ensures.value
    c.args.op.now c.op.new.self (ap (λ (p : Progress). p.ops) (c.op.ensures.turn room))
