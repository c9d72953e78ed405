use Rattle.dm_top.proofs.Verdicts.{one_verdict, judged}
use Rattle.dm_top.proofs.law.one_verdict_a_history.Goals as goal

pub returns-clause-one : goal.returns-clause-one
returns-clause-one c = one_verdict

pub returns-clause-ends : goal.returns-clause-ends
returns-clause-ends c = judged
