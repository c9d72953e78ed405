use Rattle.std.proofs.Common.{rules, ◌≡◌, true, inl}
use Rattle.dm_client.proofs.Handing.{knows_on, over_granted}
use Rattle.dm_client.specs.Moves.{is_over}
use Rattle.dm_sites.specs.Stages.{FreedAs}
use Rattle.dm_client.proofs.bringing.hand_over.Goals as goal

pub give-requires-clause-knows : goal.give-requires-clause-knows
give-requires-clause-knows g c = knows_on c.args.place.now c.args.own.now c.release_at.new.own c.requires.knows c.release_at.ensures.went

pub settle-requires-clause-knows : goal.settle-requires-clause-knows
settle-requires-clause-knows g c = inl (knows_on c.args.place.now c.args.own.now c.release_at.new.own c.requires.knows c.release_at.ensures.went)

pub settle-requires-clause-granted : goal.settle-requires-clause-granted
settle-requires-clause-granted g c =
    let t : is_over c.in_ok-freed.freed ≡ true = search rules in
    let h : FreedAs c.args.on c.args.place.now.part c.args.own.now c.release_at.new.own c.in_ok-freed.freed = search rules in
    over_granted c.args.on c.args.place.now.part c.args.own.now c.release_at.new.own c.in_ok-freed.freed t h
