use Rattle.std.proofs.Common.{sym, ap, ◌∙◌, arith}
use Rattle.dm_chronicle.proofs.Keeps.{joins_seats, looks}
use Rattle.dm_chronicle.proofs.Turns.{gathers}
use Rattle.dm_chronicle.proofs.chronicle.Chronicle.gather.Goals as goal

pub join_seat-requires : goal.join_seat-requires
join_seat-requires g c = let own = sym (ap (λ v. v.table) c.self.view_is) in (
  c.requires.into ∙ own,
  c.requires.other ∙ own,
  c.requires.hands,
  omega (arith, c.self.invariant.words),
  joins_seats _ _ _ _ _ _ _ _ _ c.requires.mark,
)

pub load-requires : goal.load-requires
load-requires g c = (
  c.join_seat.ensures.0 ∙ (c.requires.into ∙ sym (ap (λ v. v.table) c.self.view_is)),
  omega (arith, c.self.invariant.words),
  looks _ _ _ _ _ _ _ _ _,
)

pub returns-clause-begins_into : goal.returns-clause-begins_into
returns-clause-begins_into g c =
    (gathers _ _ _ _ c.args.into.now.me.0 c.args.other.me.0 c.args.into.now.me.1 _ _ c.join_seat.ensures.2 c.load.ensures.2).begins_into

pub returns-clause-begins_other : goal.returns-clause-begins_other
returns-clause-begins_other g c =
    (gathers _ _ _ _ c.args.into.now.me.0 c.args.other.me.0 c.args.into.now.me.1 _ _ c.join_seat.ensures.2 c.load.ensures.2).begins_other

pub returns-clause-shows : goal.returns-clause-shows
returns-clause-shows g c = (gathers _ _ _ _ c.args.into.now.me.0 c.args.other.me.0 c.args.into.now.me.1 _ _ c.join_seat.ensures.2 c.load.ensures.2).shows

pub returns-clause-fixed : goal.returns-clause-fixed
returns-clause-fixed g c = (gathers _ _ _ _ c.args.into.now.me.0 c.args.other.me.0 c.args.into.now.me.1 _ _ c.join_seat.ensures.2 c.load.ensures.2).still
