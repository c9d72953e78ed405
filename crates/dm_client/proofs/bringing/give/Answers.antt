use Rattle.std.proofs.Common.{rules, ◌≡◌, true, inl}
use Rattle.dm_client.proofs.Handing.{given_granted, knows_on}
use Rattle.dm_client.specs.Moves.{is_given}
use Rattle.dm_sites.specs.Stages.{GivenAs}
use Rattle.dm_client.proofs.bringing.give.Goals as goal

pub settle-requires-clause-knows : goal.settle-requires-clause-knows
settle-requires-clause-knows g c = inl (knows_on c.args.place.now c.args.own.now c.grant_at.new.own c.requires.knows c.grant_at.ensures.went)

pub settle-requires-clause-granted : goal.settle-requires-clause-granted
settle-requires-clause-granted g c =
    let t : is_given c.in_ok-given.given ≡ true = search rules in
    let h : GivenAs c.args.on c.args.place.now.part c.args.own.now c.grant_at.new.own c.in_ok-given.given = search rules in
    given_granted c.args.on c.args.place.now.part c.args.own.now c.grant_at.new.own c.in_ok-given.given t h
