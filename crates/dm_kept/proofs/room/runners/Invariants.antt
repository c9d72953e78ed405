use Rattle.std.proofs.Common.{◌≡◌, ◌≤◌, ◌-◌}
use Rattle.std.specs.List.{range_with_len, sum_by}
use Rattle.dm_kept.proofs.room.runners.Given as goal
use Rattle.dm_room.specs.Room.{runs_there}
use Rattle.dm_state.specs.Standings.{attempt_in}

abbrev pub invariant-loop-session : goal.invariant-loop-session
invariant-loop-session l = record {
  sum : l.count ≡ sum_by (λ session. runs_there l.site (attempt_in l.states session).state) (range_with_len 1 (l.session - 1));
  few : l.count ≤ l.session - 1;
}
