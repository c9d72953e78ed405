use Rattle.dm_top.proofs.Due.{due_after}
use Rattle.dm_top.proofs.law.one_status_an_answer.Goals as goal

pub returns : goal.returns
returns c = due_after
