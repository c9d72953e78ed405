use Rattle.dm_past.proofs.Printed.{printed}
use Rattle.dm_past.proofs.Reread.{reread}
use Rattle.dm_past.proofs.reading.histories_both_ways.Goals as goal

pub returns-clause-printed : goal.returns-clause-printed
returns-clause-printed c = printed

pub returns-clause-again : goal.returns-clause-again
returns-clause-again c = reread
