use Rattle.dm_desk.proofs.Due.{due_on_way}
use Rattle.dm_desk.proofs.telling.grant_due.Goals as goal

pub returns-then-leq : goal.returns-then-leq
returns-then-leq c =
    due_on_way _ _ _ _ _ _ _ _ c.leq.result _ c.if-down.false c.in-Between.is c.if-to-site.false c.leq.ensures c.if-leq.true

pub returns-else-leq : goal.returns-else-leq
returns-else-leq c =
    due_on_way _ _ _ _ _ _ _ _ c.leq.result _ c.if-down.false c.in-Between.is c.if-to-site.false c.leq.ensures c.if-leq.false
