use Rattle.dm_site.proofs.Catching.{on_ok, next_there, known_next}
use Rattle.dm_site.proofs.refreshing.make_room.Goals as goal

pub unreachable-requires : goal.unreachable-requires
unreachable-requires c =
    let k = c.kept in let turn = c.args.turn.now in
    next_there turn.fixed turn.seen k.result.now c.args.site c.args.origin k.ensures.fixed k.ensures.list c.in_default.ensures.exact c.requires

pub returns-clause-known : goal.returns-clause-known
returns-clause-known c =
    let k = c.kept in let turn = c.args.turn.now in let e = c.in-Some.entry.now in
    on_ok c.reserve_refresh.result _
    (known_next turn.fixed turn.seen k.result.now c.args.site c.args.origin k.ensures.fixed k.ensures.list e c.in-Some.ensures.exact
    c.know_each.new.self.known c.reserve.new.self.known c.as_slice.result.now c.in_ok-know_each.ensures.all c.as_slice.ensures c.reserve.ensures.known)
