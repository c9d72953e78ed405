use Rattle.dm_next.proofs.Doubts.{may_doubt, may_fail_instead, may_fail_damaged}
use Rattle.dm_next.proofs.Restarts.{may_restart, may_restart_at_floor}
use Rattle.dm_next.proofs.doubts_and_restarts.Goals as goal

pub returns : goal.returns
returns c = record { doubt = may_doubt; fail = may_fail_instead; floor = may_restart_at_floor; restart = may_restart; damage = may_fail_damaged }
