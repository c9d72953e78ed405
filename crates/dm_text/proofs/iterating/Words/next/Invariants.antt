use Rattle.std.proofs.Common.{◌≡◌, length}
use Rattle.dm_text.specs.Text.{words_of}
use Rattle.dm_text.proofs.iterating.Words.next.Given as goal

abbrev pub invariant-loop-rest : goal.invariant-loop-rest
invariant-loop-rest l = words_of l.rest ≡ words_of l.initial.rest

abbrev pub decreases-loop-rest : goal.decreases-loop-rest
decreases-loop-rest l = length l.rest
