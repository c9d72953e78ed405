use Rattle.std.proofs.Common.{◌≡◌, ◌++◌, take}
use Rattle.std.specs.List.{flat_map}
use Rattle.dm_report.specs.Rest.{move_text}
use Rattle.dm_report.proofs.rest.put_moves.Given as goal

abbrev pub invariant-loop-made : goal.invariant-loop-made
invariant-loop-made l = l.out.items ≡ l.initial.out.items ++ flat_map move_text (take l.made-index l.moves)
