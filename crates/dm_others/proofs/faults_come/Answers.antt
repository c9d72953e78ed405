use Rattle.dm_others.proofs.Logs.{faults_fail, faults_doubt}
use Rattle.dm_others.proofs.faults_come.Goals as goal

pub returns : goal.returns
returns c = record {
  fail = λ past site at txn. faults_fail site past txn at;
  doubt = λ past site pending. faults_doubt site past pending;
}
