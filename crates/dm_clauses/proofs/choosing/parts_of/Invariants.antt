use Rattle.std.proofs.Common.{◌≡◌, take}
use Rattle.dm_model.specs.Choices.{parts_of}
use Rattle.dm_clauses.proofs.choosing.parts_of.Given as goal

abbrev pub invariant-loop-key : goal.invariant-loop-key
invariant-loop-key l = l.parts ≡ parts_of l.schema (take l.key-index l.keys)
