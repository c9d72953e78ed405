use Rattle.std.proofs.Common.{Option, ap, ◌∙◌, take}
use Rattle.std.specs.Prelude.{reverse}
use Rattle.dm_event.specs.declared.step.Pending.{Pending}
use Rattle.dm_model.specs.Doubts.{pending_at}
use Rattle.dm_report.specs.Keeping.{kept_release}
use Rattle.dm_report.proofs.FurtherMoves.{release_kept, release_where_kept}
use Rattle.dm_report.proofs.moves.released.Goals as goal

pub returns-in-Restart : goal.returns-in-Restart
returns-in-Restart c =
    let past = reverse (take c.args.place c.args.book.now.steps) in
    c.kept_release.ensures
    ∙ ap (λ (o : Option Pending). kept_release c.args.part c.in-Restart.site c.in-Restart.found o) c.doubted.ensures
    ∙ release_where_kept c.args.part c.in-Restart.site c.in-Restart.found (pending_at c.in-Restart.site past)
    ∙ release_kept c.args.part c.args.step.now past c.in-Restart.site c.in-Restart.vector c.in-Restart.found c.in-Restart.is
