use Rattle.std.proofs.Common.{◌≡◌, ◌++◌, length, map}
use Rattle.dm_text.specs.Text.{words_of}
use Rattle.dm_text.proofs.listing.words.Given as goal

abbrev pub invariant-loop-word : goal.invariant-loop-word
invariant-loop-word l = record {
  exact : map (λ word. word.now) l.found.items ++ l.words ≡ words_of l.line;
}

abbrev pub decreases-loop-word : goal.decreases-loop-word
decreases-loop-word l = length l.words
