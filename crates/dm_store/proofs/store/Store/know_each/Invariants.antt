use Rattle.std.proofs.Common.{◌≡◌, ℕ, take}
use Rattle.std.specs.Prelude.{IsTrue}
use Rattle.dm_model.specs.Tests.{is_among}
use Rattle.dm_store.specs.Known.{AreKnown}
use Rattle.dm_store.proofs.store.Store.know_each.Given as goal

abbrev pub invariant-loop-pair : goal.invariant-loop-pair
invariant-loop-pair l = record {
  all : AreKnown l.self.known (take l.pair-index l.pairs);
  stay : (key : ℕ) → IsTrue (is_among l.initial.self.known key) → IsTrue (is_among l.self.known key);
  layout : l.self.layout ≡ l.initial.self.layout;
  installed : l.self.installed ≡ l.initial.self.installed;
  spare : l.self.spare ≡ l.initial.self.spare;
}
