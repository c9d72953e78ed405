use Rattle.std.proofs.Common.{◌≡◌, ◌<◌, ℕ, get_or}
use Rattle.std.specs.Prelude.{IsTrue}
use Rattle.dm_kept.proofs.room.know_all.Given as goal
use Rattle.dm_model.specs.Tests.{is_among}

abbrev pub invariant-loop-key : goal.invariant-loop-key
invariant-loop-key l = record {
  all : (j : ℕ) → j < l.key-index → IsTrue (is_among l.store.known (get_or l.keys j 0));
  stay : (key : ℕ) → IsTrue (is_among l.initial.store.known key) → IsTrue (is_among l.store.known key);
  layout : l.store.layout ≡ l.initial.store.layout;
  installed : l.store.installed ≡ l.initial.store.installed;
  spare : l.store.spare ≡ l.initial.store.spare;
}
