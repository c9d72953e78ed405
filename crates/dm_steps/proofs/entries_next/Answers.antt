use Rattle.dm_steps.proofs.Sites.{entries_next, count_next, entry_next}
use Rattle.dm_steps.proofs.entries_next.Goals as goal

pub returns : goal.returns
returns c = record {
  entries = λ step past. entries_next step past;
  count = λ step past origin. count_next step past origin;
  found = λ step past origin seq. entry_next step past origin seq;
}
