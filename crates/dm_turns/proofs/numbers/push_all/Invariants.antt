use Rattle.std.proofs.Common.{◌≡◌}
use Rattle.dm_turns.proofs.numbers.push_all.Given as goal

abbrev pub invariant-loop-i : goal.invariant-loop-i
invariant-loop-i g l = record {
  actors : l.pass.actors ≡ l.initial.pass.actors;
  table : l.pass.table ≡ l.chron.table;
}
