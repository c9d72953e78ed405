use Rattle.std.proofs.Common.{◌≡◌, take, drop, true}
use Rattle.std.specs.List.{AllByRecursion}
use Rattle.dm_store.specs.Known.{AreKnown}
use Rattle.dm_store.specs.Rising.{may_install}
use Rattle.dm_store.proofs.store.Store.rebuild.Given as goal

abbrev pub invariant-loop-transaction : goal.invariant-loop-transaction
invariant-loop-transaction l = record {
  installed : l.store.installed ≡ take l.transaction-index l.past;
  rest : may_install l.store.installed (drop l.transaction-index l.past) ≡ true;
  layout : l.store.layout ≡ l.schema;
  known : AllByRecursion (λ t. AreKnown l.store.known t.writes) (take l.transaction-index l.past);
}
