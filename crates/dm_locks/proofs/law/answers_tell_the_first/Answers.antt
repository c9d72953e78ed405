use Rattle.dm_locks.proofs.Firsts.{answers_first, apart_got, got_apart}
use Rattle.dm_locks.proofs.law.answers_tell_the_first.Goals as goal

pub returns-clause-got : goal.returns-clause-got
returns-clause-got c = λ keys claims. (got_apart keys claims, apart_got keys claims)

pub returns-clause-waits : goal.returns-clause-waits
returns-clause-waits c = λ keys claims by key up h. answers_first keys claims by key up h
