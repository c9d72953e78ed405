use Rattle.std.proofs.Common.{◌≡◌, Option, ap, sym, ◌∙◌, subst, true}
use Rattle.std.specs.Prelude.{reverse, IfSome}
use Rattle.dm_event.specs.declared.step.Pending.{Pending}
use Rattle.dm_event.specs.declared.step.Step.{Step}
use Rattle.dm_event.specs.declared.step.Step.TheVariants.{Doubt}
use Rattle.dm_model.specs.Shape.{is_shaped}
use Rattle.dm_steps.specs.Adding.{kept_floor, floor_by}
use Rattle.dm_steps.proofs.Legality.{pending_shaped}
use Rattle.dm_plain.proofs.floors.floor_by.Goals as goal

pub kept_floor-requires : goal.kept_floor-requires
kept_floor-requires c =
    subst (λ (o : Option Pending). IfSome o (λ p. is_shaped c.args.schema.now (Doubt c.in-Restart.at p) ≡ true)) (sym c.pending_at.ensures)
    (pending_shaped c.args.schema.now c.in-Restart.at (reverse c.args.before.now) c.requires.legal)

pub returns-in-Restart-clause-exact : goal.returns-in-Restart-clause-exact
returns-in-Restart-clause-exact c =
    c.kept_floor.ensures.exact ∙ ap (λ (o : Option Pending). kept_floor c.args.site c.in-Restart.at c.in-Restart.found o) c.pending_at.ensures
    ∙ ap (λ (t : Step). floor_by c.args.site t (reverse c.args.before.now)) (sym c.in-Restart.is)
