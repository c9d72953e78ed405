use Rattle.std.proofs.Common.{◌∷◌, ◌++◌, ◌≡◌, [], List, Some, ap, sym, ◌∙◌, arith, subst, refl}
use Rattle.std.proofs.Math.ListN.{set}
use Rattle.std.specs.Prelude.{◌-◌}
use Rattle.dm_body.specs.Progress.{Progress}
use Rattle.dm_event.specs.declared.step.Step.{Step}
use Rattle.dm_event.specs.declared.step.Step.TheVariants.{Begin}
use Rattle.dm_schedule.specs.Drive.{Drive, routed_of}
use Rattle.dm_schedule.specs.Drivers.{drive_in}
use Rattle.dm_schedule.proofs.BodiesKept.{legal_after, begun_after, begun_drive}
use Rattle.dm_schedule.proofs.DriversKept.{routed_session}
use Rattle.dm_schedule.proofs.driver.Driver.begin.Goals as goal

pub invariant_of-self-in-Ok : goal.invariant_of-self-in-Ok
invariant_of-self-in-Ok c =
    let before = c.self.inside.book in
    let after = c.push.new.self in
    let step = Begin c.args.site c.args.txn c.args.begin in
    let layout = c.push.ensures.schema ∙ c.in_ok-reserve-in-Ok.ensures.schema in
    let steps = c.push.ensures.pushed ∙ ap (λ (steps : List Step). steps ++ step ∷ []) c.in_ok-reserve-in-Ok.ensures.history in
    let list = c.self.inside.overlays.items in
    let own = routed_session (drive_in c.self.inside) c.args.session c.args.txn c.args.site
    (subst (λ (d : Drive). routed_of d c.args.session ≡ Some (c.args.txn, c.args.site)) (sym c.self.view_is) c.requires.routed) in
    record {
      sessions = c.self.invariant.sessions;
      legal = legal_after before after step c.self.invariant.legal c.in-Ok.ensures layout steps;
      bodies = begun_after before after step c.self.invariant.legal c.in-Ok.ensures layout steps list (set list (c.args.session - 1) c.in_ok-overlay.overlay)
          c.self.invariant.bodies
          c.args.site c.args.session c.args.txn c.args.begin refl own c.requires.session.0
          (omega (arith, c.requires.session.1, c.self.inside.overlays.ok.0, c.self.invariant.sessions))
          (ap (λ (overlay : Progress). set list (c.args.session - 1) overlay) c.in_ok-overlay.ensures);
    }

pub returns-in_ok-reserve-in-Ok-clause-does : goal.returns-in_ok-reserve-in-Ok-clause-does
returns-in_ok-reserve-in-Ok-clause-does c =
    let step = Begin c.args.site c.args.txn c.args.begin in
    let layout = c.push.ensures.schema ∙ c.in_ok-reserve-in-Ok.ensures.schema in
    let steps = c.push.ensures.pushed ∙ ap (λ (steps : List Step). steps ++ step ∷ []) c.in_ok-reserve-in-Ok.ensures.history in
    let list = c.self.inside.overlays.items in
    begun_drive c.self.inside.book c.push.new.self step list (set list (c.args.session - 1) c.in_ok-overlay.overlay) c.args.session layout steps
    (ap (λ (overlay : Progress). set list (c.args.session - 1) overlay) c.in_ok-overlay.ensures) c.args.self.now c.self.view_is
