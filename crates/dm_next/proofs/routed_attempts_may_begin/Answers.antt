use Rattle.dm_next.proofs.Routed.{may_begin, may_move, may_fail_routed, is_routed_on}
use Rattle.dm_next.proofs.routed_attempts_may_begin.Goals as goal

pub returns : goal.returns
returns c = record { begin = may_begin; moved = may_move; fail = may_fail_routed; longer = is_routed_on }
