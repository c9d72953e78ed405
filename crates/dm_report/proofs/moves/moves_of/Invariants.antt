use Rattle.std.proofs.Common.{◌≡◌, take}
use Rattle.std.specs.Prelude.{reverse}
use Rattle.dm_model.specs.Acts.{acts}
use Rattle.dm_report.specs.Moves.{moves_by}
use Rattle.dm_report.proofs.moves.moves_of.Given as goal

abbrev pub invariant-loop-place : goal.invariant-loop-place
invariant-loop-place l = l.moves.items ≡ reverse (moves_by (acts (reverse (take l.place l.book.steps))))
