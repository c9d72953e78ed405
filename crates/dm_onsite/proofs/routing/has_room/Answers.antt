use Rattle.std.proofs.Common.{sym, ◌∙◌}
use Rattle.dm_onsite.proofs.Plays.{on_ok}
use Rattle.dm_onsite.proofs.routing.has_room.Goals as goal

pub returns-then-may_come-clause-room : goal.returns-then-may_come-clause-room
returns-then-may_come-clause-room c =
    λ t. on_ok _ c.reserve.result c.reserve.ensures.room (sym c.is_ok.ensures.value ∙ t) (c.may_come.ensures c.if-may_come.true)
