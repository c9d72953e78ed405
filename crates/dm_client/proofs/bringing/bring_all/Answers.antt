use Rattle.dm_client.proofs.Carrying.{may_move_on}
use Rattle.dm_client.proofs.bringing.bring_all.Goals as goal

pub bring_one-requires-clause-parts : goal.bring_one-requires-clause-parts
bring_one-requires-clause-parts g c =
    let inv = c.loop-part.invariant in
    may_move_on c.args.on c.args.to c.args.parts.now c.args.wanted c.args.own.now c.loop-part.own inv.0 inv.1 c.requires.parts
