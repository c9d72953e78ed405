use Rattle.std.proofs.Common.{sym, ◌∙◌}
use Rattle.dm_invariant.proofs.Letting.{gives_back, holds_nothing}
use Rattle.dm_desk.proofs.desk.let_go.Goals as goal

pub returns-then-holds : goal.returns-then-holds
returns-then-holds c =
    gives_back c.args.txn c.args.locks.now c.give_back.new.self c.is_sound.ensures (sym c.holds.ensures ∙ c.if-holds.true) c.give_back.ensures

pub returns-else-holds : goal.returns-else-holds
returns-else-holds c = holds_nothing c.args.txn c.args.locks.now (sym c.holds.ensures ∙ c.if-holds.false)
