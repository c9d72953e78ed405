use Rattle.std.proofs.Common.{◌≡◌, ◌++◌, length, map}
use Rattle.dm_kinds.specs.Marks.{pieces_of}
use Rattle.dm_kinds.proofs.marks.pieces.Given as goal

abbrev pub invariant-loop-piece : goal.invariant-loop-piece
invariant-loop-piece l = map (λ piece. piece.now) l.found.items ++ pieces_of l.mark l.rest ≡ pieces_of l.mark l.text

abbrev pub decreases-loop-piece : goal.decreases-loop-piece
decreases-loop-piece l = length l.rest
