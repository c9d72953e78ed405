use Rattle.std.specs.Prelude.{reverse}
use Rattle.dm_model.proofs.AttemptStates.{routed_tells}
use Rattle.dm_model.proofs.RunningStates.{runs_tells, tells_runs}
use Rattle.dm_model.proofs.attempts_told.Goals as goal

pub returns : goal.returns
returns c = record {
  routed = λ past session site choice e. routed_tells session site choice past e;
  running = λ layout history h site txn. (runs_tells layout (reverse history) h site txn, tells_runs layout (reverse history) h site txn);
}
