use Rattle.std.proofs.Common.{◌∷◌, ◌++◌, ◌≡◌, [], List, None, true, ap, sym, ◌∙◌, subst}
use Rattle.std.specs.Prelude.{reverse}
use Rattle.dm_event.specs.declared.step.Step.{Step}
use Rattle.dm_model.proofs.Judged.{shape_of}
use Rattle.dm_model.specs.Shape.{is_shaped}
use Rattle.dm_schedule.specs.Drive.{Drive, refusal_of}
use Rattle.dm_schedule.specs.Drivers.{drive_in}
use Rattle.dm_schedule.proofs.BodiesKept.{legal_after, pushed_after}
use Rattle.dm_schedule.proofs.DriversKept.{allowed_why}
use Rattle.dm_schedule.proofs.driver.Driver.push.Goals as goal

pub invariant_of-self-in-Ok : goal.invariant_of-self-in-Ok
invariant_of-self-in-Ok c =
    let before = c.self.inside.book in
    let after = c.push.new.self in
    let layout = c.push.ensures.schema ∙ c.in_ok-reserve-in-Ok.ensures.schema in
    let steps = c.push.ensures.pushed ∙ ap (λ (steps : List Step). steps ++ c.args.step ∷ []) c.in_ok-reserve-in-Ok.ensures.history in
    record {
      sessions = c.self.invariant.sessions;
      legal = legal_after before after c.args.step c.self.invariant.legal c.in-Ok.ensures layout steps;
      bodies = pushed_after before after c.args.step c.self.invariant.legal c.in-Ok.ensures layout steps c.self.inside.overlays.items c.self.invariant.bodies
          c.requires;
    }

pub returns-in_ok-reserve-in-Ok-clause-why : goal.returns-in_ok-reserve-in-Ok-clause-why
returns-in_ok-reserve-in-Ok-clause-why c =
    sym (subst (λ (d : Drive). refusal_of d c.args.step ≡ None) c.self.view_is (allowed_why (drive_in c.self.inside) c.args.step c.in-Ok.ensures))

pub returns-in_ok-reserve-in-Ok-clause-shaped : goal.returns-in_ok-reserve-in-Ok-clause-shaped
returns-in_ok-reserve-in-Ok-clause-shaped c = λ none. subst (λ (d : Drive). is_shaped d.layout c.args.step ≡ true) c.self.view_is
    (shape_of c.self.inside.book.layout (reverse c.self.inside.book.steps) c.args.step c.in-Ok.ensures)
