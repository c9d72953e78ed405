use Rattle.dm_locks.proofs.Lines.{never_before, was_ahead}
use Rattle.dm_locks.proofs.law.nobody_overtakes.Goals as goal

pub returns-clause-ahead : goal.returns-clause-ahead
returns-clause-ahead c = λ locks claim calls on holder holds share. was_ahead locks claim calls on holder holds share

pub returns-clause-in_order : goal.returns-clause-in_order
returns-clause-in_order c = λ locks r earlier later w v front share calls on holds. never_before locks r earlier later w v front share calls on holds
