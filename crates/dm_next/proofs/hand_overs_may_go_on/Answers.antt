use Rattle.dm_next.proofs.HandOvers.{may_release, may_grant}
use Rattle.dm_next.proofs.Routed.{may_log_routed}
use Rattle.dm_next.proofs.hand_overs_may_go_on.Goals as goal

pub returns : goal.returns
returns c = record { release = may_release; grant = may_grant; fail = may_log_routed }
