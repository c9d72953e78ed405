use Rattle.std.proofs.Common.{◌≡◌, Option, sym, subst, true}
use Rattle.std.specs.Prelude.{IfSome}
use Rattle.dm_event.specs.Layout.{Layout}
use Rattle.dm_event.specs.declared.step.Pending.{Pending}
use Rattle.dm_event.specs.declared.step.Step.TheVariants.{Doubt}
use Rattle.dm_kept.specs.Ledger.{past}
use Rattle.dm_model.specs.Doubts.{pending_at}
use Rattle.dm_model.specs.Shape.{is_shaped}
use Rattle.dm_steps.proofs.Legality.{pending_shaped}
use Rattle.dm_kept.proofs.restarting.pending_floor.Goals as goal

pub kept_floor-requires : goal.kept_floor-requires
kept_floor-requires c =
    let kept = c.args.kept.now in
    subst (λ (o : Option Pending). IfSome o (λ p. is_shaped c.schema.result.now (Doubt c.args.site p) ≡ true)) (sym c.pending.ensures)
    (subst (λ (l : Layout). IfSome (pending_at c.args.site (past kept)) (λ p. is_shaped l (Doubt c.args.site p) ≡ true)) (sym c.schema.ensures)
    (pending_shaped kept.layout c.args.site (past kept) c.is_legal.ensures.legal))
