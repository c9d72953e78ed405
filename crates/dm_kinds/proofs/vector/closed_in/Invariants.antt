use Rattle.std.proofs.Common.{◌≡◌, ◌+◌, drop, map}
use Rattle.dm_kinds.specs.Values.{closed_in}
use Rattle.dm_kinds.proofs.vector.closed_in.Given as goal

abbrev pub invariant-loop-word : goal.invariant-loop-word
invariant-loop-word l = record {
  count : l.count ≡ l.word-index;
  exact : l.count + closed_in (map (λ w. w.now) (drop l.word-index l.words)) ≡ closed_in (map (λ w. w.now) l.words);
}
