use Rattle.dm_next.proofs.Reading.{run_begins, op_more, runs_on, begin_within, begin_values_on}
use Rattle.dm_next.proofs.runs_stay.Goals as goal

pub returns : goal.returns
returns c = record { begins = run_begins; op = op_more; longer = runs_on; within = begin_within; values = begin_values_on }
