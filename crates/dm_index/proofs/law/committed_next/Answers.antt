use Rattle.dm_index.proofs.Stored.{committed_next}
use Rattle.dm_index.proofs.law.committed_next.Goals as goal

pub returns : goal.returns
returns c = λ steps step. committed_next steps step
