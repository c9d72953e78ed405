use Rattle.dm_locks.proofs.Runs.{reached_few, reached_sound}
use Rattle.dm_locks.proofs.law.one_holder_a_key.Goals as goal

pub returns-clause-one_holder : goal.returns-clause-one_holder
returns-clause-one_holder c = λ locks r. (reached_sound locks r).one_holder

pub returns-clause-one_claim : goal.returns-clause-one_claim
returns-clause-one_claim c = λ locks r. (reached_sound locks r).one_claim

pub returns-clause-few : goal.returns-clause-few
returns-clause-few c = λ locks r. reached_few locks r
