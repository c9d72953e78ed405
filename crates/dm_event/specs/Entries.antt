-- Committed transactions.
use Rattle.std.specs.Prelude.{ℕ, List}
use Rattle.dm_event.specs.declared.step.Entry.{Entry}
use Rattle.dm_event.specs.Vectors.{raised}

-- the begin vector with the entry's own number at its origin
abbrev pub commit_vector : Entry → List ℕ
commit_vector e = raised e.begin e.origin e.seq
