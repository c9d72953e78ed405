use Rattle.dm_others.proofs.Runs.{running_begins, holds_runs, declared_stays}
use Rattle.dm_others.proofs.runs_begin.Goals as goal

pub returns : goal.returns
returns c = record {
  begin = λ layout past site txn begin l. running_begins layout site past txn begin l;
  holds = λ past site txn. holds_runs site past txn;
  keys = λ layout past step site txn l r. declared_stays layout site past l.0 step l.1 txn r;
}
