use Rattle.std.specs.Prelude.{reverse}
use Rattle.dm_model.proofs.MastershipSound.{ordered_past}
use Rattle.dm_model.proofs.OneMaster.{one_master_past}
use Rattle.dm_model.proofs.SessionsRise.{session_up_past}
use Rattle.dm_model.proofs.Snapshots.{snapshot_past}
use Rattle.dm_model.proofs.legal_histories.Goals as goal

pub returns : goal.returns
returns c = record {
  snapshot = λ layout history h. snapshot_past layout (reverse history) h;
  ordered = λ layout history h. ordered_past layout (reverse history) h;
  session_up = λ layout history h. session_up_past layout (reverse history) h;
  one_master = λ layout history h. one_master_past layout (reverse history) h;
}
