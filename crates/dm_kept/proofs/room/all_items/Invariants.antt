use Rattle.std.proofs.Common.{◌≡◌, ◌≤◌, ◌*◌, ◌-◌, ◌^◌}
use Rattle.std.specs.List.{range_with_len, sum_by}
use Rattle.dm_kept.proofs.room.all_items.Given as goal
use Rattle.dm_room.specs.Room.{items_of}

abbrev pub invariant-loop-session : goal.invariant-loop-session
invariant-loop-session l = record {
  sum : l.count ≡ sum_by (λ session. items_of l.items session) (range_with_len 1 (l.session - 1));
  few : l.count ≤ (l.session - 1) * 2 ^ 32;
}
