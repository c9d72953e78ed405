use Rattle.dm_locks.proofs.Lines.{emptied, first_served}
use Rattle.dm_locks.proofs.law.first_waiter_is_served.Goals as goal

pub returns-clause-served : goal.returns-clause-served
returns-clause-served c = λ locks first rest q calls on given. first_served locks first rest q calls on given

pub returns-clause-emptied : goal.returns-clause-emptied
returns-clause-emptied c = λ locks r. emptied locks r
