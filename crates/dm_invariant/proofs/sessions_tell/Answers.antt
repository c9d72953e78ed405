use Rattle.dm_invariant.proofs.Sessions.{routed_here, dropped_here}
use Rattle.dm_invariant.proofs.sessions_tell.Goals as goal

pub returns : goal.returns
returns c = record {
  routed = λ txn wanted min site pass sent. routed_here txn wanted min site pass sent;
  dropped = λ layout steps before site txn begin legal last off. dropped_here layout steps before site txn begin legal last off;
}
