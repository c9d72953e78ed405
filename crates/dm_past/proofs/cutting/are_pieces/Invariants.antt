use Rattle.std.proofs.Common.{◌≡◌, drop, map}
use Rattle.dm_past.specs.Cuts.{are_pieces}
use Rattle.dm_past.proofs.cutting.are_pieces.Given as goal

abbrev pub invariant-loop-piece : goal.invariant-loop-piece
invariant-loop-piece l = are_pieces (map (λ piece. piece.now) (drop l.piece-index l.pieces)) ≡ are_pieces (map (λ piece. piece.now) l.pieces)
