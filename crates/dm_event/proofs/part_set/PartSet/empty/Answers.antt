use Rattle.std.proofs.Common.{refl}
use Rattle.dm_event.specs.PartFields.{bits_set, words_by}
use Rattle.dm_event.proofs.part_set.PartSet.empty.Goals as goal

pub invariant_of-result : goal.invariant_of-result
unfolding bits_set words_by
invariant_of-result c = refl

pub returns : goal.returns
unfolding bits_set
returns c = refl
