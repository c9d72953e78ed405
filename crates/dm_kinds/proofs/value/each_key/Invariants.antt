use Rattle.std.proofs.Common.{◌≡◌, drop, map, []}
use Rattle.dm_kinds.specs.Values.{items_from, key_of}
use Rattle.dm_kinds.proofs.value.each_key.Given as goal

abbrev pub invariant-loop-piece : goal.invariant-loop-piece
invariant-loop-piece l = items_from key_of l.keys.items (map (λ w. w.now) (drop l.piece-index l.pieces)) ≡ items_from key_of [] (map (λ w. w.now) l.pieces)
