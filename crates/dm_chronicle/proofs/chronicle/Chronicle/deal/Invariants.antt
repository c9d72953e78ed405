use Rattle.dm_chronicle.specs.Belongs.{belongs}
use Rattle.std.proofs.Common.{◌≡◌, ◌≤◌, length, [], Some, take, drop, vec_capacity}
use Rattle.dm_chronicle.specs.Rule.{names, Shows}
use Rattle.dm_chronicle.specs.Standing.{starts}
use Rattle.dm_chronicle.proofs.chronicle.Chronicle.deal.Given as goal

abbrev pub invariant-loop : goal.invariant-loop
invariant-loop g l = record {
  passes : l.passes.items ≡ starts l.self.table l.self.fixed l.initial.seat.me.0.seen (take l.counter l.actors);
  room : length l.actors ≤ vec_capacity l.passes;
  names : names l.seat.me.0.held ≡ drop l.counter l.actors;
  table : l.seat.table_id ≡ l.self.table;
  hands : l.seat.me.1 ≡ [];
  mark : l.seat.me.0.mark ≡ 0;
  olds : l.seat.me.0.older ≡ [];
  fixed : l.seat.me.0.fixed ≡ Some l.self.fixed;
  seen : l.seat.me.0.seen ≡ l.initial.seat.me.0.seen;
  shows : Shows g.L.Law.list g.L.Law.fixed (belongs g.L.Law.actors) g.L.Law.may_follow l.seat.me.0;
}
