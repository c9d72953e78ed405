use Rattle.dm_others.proofs.Logs.{down_other, pending_other, records_other, faults_other}
use Rattle.dm_others.proofs.Others.{entries_other, vector_other}
use Rattle.dm_others.proofs.Runs.{running_other, claims_other}
use Rattle.dm_others.proofs.steps_of_others.Goals as goal

pub returns : goal.returns
returns c = record {
  entries = λ layout past step site l b. entries_other layout site past l.0 step l.1 b;
  vector = λ layout past step site l b. vector_other layout site past l.0 step l.1 b;
  down = λ past step site b. down_other site past step b;
  pending = λ past step site b. pending_other site past step b;
  records = λ layout past step site l b. records_other layout site past l.0 step l.1 b;
  faults = λ past step site b. faults_other site past step b;
  running = λ layout past step site l b. running_other layout site past l.0 step l.1 b;
  claims = λ layout past step site l b. claims_other layout site past l.0 step l.1 b;
}
