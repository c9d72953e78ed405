use Rattle.dm_desk.proofs.Endings.{follows_book, in_hand}
use Rattle.dm_table.proofs.Rooms.{settle_fits}
use Rattle.dm_table.proofs.place.has_room.Goals as goal

pub keeps_room-requires-clause-allowed : goal.keeps_room-requires-clause-allowed
keeps_room-requires-clause-allowed c =
    let k = c.kept-book in let turn = c.args.turn.now in
    follows_book turn.fixed turn.seen k.result.now c.args.step.now k.ensures.fixed k.ensures.list c.requires.follows

pub keeps_room-requires-clause-none : goal.keeps_room-requires-clause-none
keeps_room-requires-clause-none c =
    let k = c.kept-book in let turn = c.args.turn.now in
    settle_fits k.result.now c.steps-steps.result.now turn.fixed turn.seen c.args.step.now c.steps-steps.ensures.same c.steps-steps.ensures.legal
    k.ensures.fixed k.ensures.list c.requires.follows c.requires.settle

pub returns : goal.returns
returns c = in_hand c.args.turn.now.kept c.kept-book.result.now c.args.step.now c.kept-book.ensures.object c.keeps_room.ensures
