use Rattle.dm_session.proofs.Rooms.{answer_fits}
use Rattle.dm_session.proofs.routes.has_room.Goals as goal

pub keeps_room-requires-clause-none : goal.keeps_room-requires-clause-none
keeps_room-requires-clause-none c =
    let k = c.kept-book in let turn = c.args.turn.now in
    answer_fits k.result.now c.steps-steps.result.now turn.fixed turn.seen c.args.step.now c.steps-steps.ensures.same c.steps-steps.ensures.legal
    k.ensures.fixed k.ensures.list c.requires.follows c.requires.answer
