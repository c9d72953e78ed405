use Rattle.std.proofs.Common.{◌≡◌}
use Rattle.dm_turns.proofs.sessions.serve.Given as goal

abbrev pub invariant-loop-number : goal.invariant-loop-number
invariant-loop-number g l = record {
  actors : l.pass.actors ≡ l.initial.pass.actors;
  table : l.pass.table ≡ l.chron.table;
}
