use Rattle.std.proofs.Common.{◌≡◌, drop, map, []}
use Rattle.dm_kinds.specs.Values.{closed_numbers}
use Rattle.dm_kinds.proofs.vector.closed_numbers.Given as goal

abbrev pub invariant-loop-next : goal.invariant-loop-next
invariant-loop-next l = closed_numbers l.numbers.items l.word (map (λ w. w.now) (drop l.next-index l.behind)) ≡ closed_numbers [] l.first (map (λ w. w.now) l.behind)
