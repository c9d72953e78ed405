use Rattle.std.proofs.Common.{◌∷◌, Option, ap, sym, ◌∙◌, take}
use Rattle.std.specs.List.{cons_option}
use Rattle.std.specs.Prelude.{reverse}
use Rattle.dm_event.specs.declared.step.Pending.{Pending}
use Rattle.dm_model.specs.Acts.{acts}
use Rattle.dm_model.specs.Doubts.{pending_at}
use Rattle.dm_report.specs.declared.moves.Move.{Move}
use Rattle.dm_report.specs.Keeping.{kept_move}
use Rattle.dm_report.specs.Moves.{moves_by}
use Rattle.dm_report.proofs.FurtherMoves.{move_granted, move_kept, move_where_kept}
use Rattle.dm_report.proofs.moves.move_by.Goals as goal

pub returns-in-Grant : goal.returns-in-Grant
returns-in-Grant c =
    let past = reverse (take c.args.place c.args.book.now.steps) in
    move_granted c.args.step.now past c.in-Grant.site c.in-Grant.part c.in-Grant.epoch c.in-Grant.vector c.in-Grant.is
    ∙ ap (λ (m : Move). m ∷ moves_by (acts past)) (sym c.taken.ensures)

pub returns-in-Restart : goal.returns-in-Restart
returns-in-Restart c =
    let past = reverse (take c.args.place c.args.book.now.steps) in
    move_kept c.args.step.now past c.in-Restart.site c.in-Restart.vector c.in-Restart.found c.in-Restart.is
    ∙ ap (λ (o : Option Move). cons_option o (moves_by (acts past)))
    (sym (move_where_kept (acts past) c.in-Restart.site c.in-Restart.found (pending_at c.in-Restart.site past))
    ∙ ap (λ (o : Option Pending). kept_move (acts past) c.in-Restart.site c.in-Restart.found o) (sym c.doubted-pending.ensures)
    ∙ sym c.kept_move.ensures)
