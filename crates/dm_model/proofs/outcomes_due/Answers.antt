use Rattle.dm_model.proofs.OutcomesDue.{due_allowed, due_given}
use Rattle.dm_model.proofs.outcomes_due.Goals as goal

pub returns : goal.returns
returns c = record { allowed = due_allowed; given = due_given }
