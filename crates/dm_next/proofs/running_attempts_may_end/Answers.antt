use Rattle.dm_next.proofs.Running.{may_commit, may_end, may_fail_for}
use Rattle.dm_next.proofs.running_attempts_may_end.Goals as goal

pub returns : goal.returns
returns c = record { commit = may_commit; end = may_end; fail = may_fail_for }
