use Rattle.std.proofs.Common.{ap, ◌∙◌}
use Rattle.dm_report.proofs.FurtherMoves.{moves_with, moves_without}
use Rattle.dm_report.proofs.moves.moves_of.Goals as goal
use Rattle.dm_report.proofs.moves.moves_of.Goals.{in-Some+in_ok-push, in_default}

pub loop-place-preserved : goal.loop-place-preserved
loop-place-preserved c =
    let steps = c.args.book.now.steps in
    let place = c.loop-place.place in
    let before = rw c.steps-steps.ensures.same at c.loop-place-test.true in
    let is = rw c.steps-steps.ensures.same at c.index-steps-place.is in
    elim c.match-move_by.branch [
      | in-Some+in_ok-push w ↦
          ap (λ v. v.items) w.moves-is
          ∙ moves_with steps place c.index-steps-place.result c.move_by.result before is c.move_by.ensures
          w.in-Some.made _ _ w.in-Some.is c.loop-place.invariant w.in_ok-push.ensures.items
      | in_default w ↦
          ap (λ v. v.items) w.moves-is
          ∙ moves_without steps place c.index-steps-place.result c.move_by.result before is c.move_by.ensures
          _ w.in_default.is c.loop-place.invariant
    ]
