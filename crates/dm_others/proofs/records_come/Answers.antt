use Rattle.std.proofs.Common.{refl}
use Rattle.dm_others.proofs.Logs.{records_commit, records_release, records_grant, records_kept, records_stay}
use Rattle.dm_others.proofs.records_come.Goals as goal

pub returns : goal.returns
returns c = record {
  commit = λ past entry. records_commit entry.origin past entry refl;
  release = λ past site part epoch to vector. records_release site past part epoch to vector;
  grant = λ past site part epoch vector. records_grant site past part epoch vector;
  kept = λ layout past site vector l. records_kept layout site past l.0 vector l.1;
  none = λ past step site h. records_stay site past step h;
}
