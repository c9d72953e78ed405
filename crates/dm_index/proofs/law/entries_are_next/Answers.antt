use Rattle.dm_index.proofs.EntriesNext.{entry_next_one}
use Rattle.dm_index.proofs.law.entries_are_next.Goals as goal

pub returns : goal.returns
returns c = λ layout past legal step allowed. entry_next_one layout past legal step allowed
