use Rattle.std.proofs.Common.{Option, ap, ◌∙◌}
use Rattle.std.specs.Prelude.{reverse}
use Rattle.dm_event.specs.declared.step.Pending.{Pending}
use Rattle.dm_plain.specs.Adding.{kept_placing}
use Rattle.dm_plain.proofs.KeptPlacings.{placing_kept}
use Rattle.dm_plain.proofs.placings.placed_by.Goals as goal

pub returns-in-Restart : goal.returns-in-Restart
returns-in-Restart c =
    c.kept.ensures ∙ ap (λ (o : Option Pending). kept_placing c.args.part c.in-Restart.site c.in-Restart.found o c.args.now) c.pending_at.ensures
    ∙ placing_kept c.args.part c.args.step.now (reverse c.args.before.now) c.args.now c.in-Restart.site c.in-Restart.vector c.in-Restart.found c.in-Restart.is
