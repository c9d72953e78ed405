use Rattle.std.proofs.Common.{arith}
use Rattle.std.proofs.lemmas.Int.{ints}
use Rattle.dm_placement.proofs.scoring.score.Goals as goal

pub returns-clause-bound : goal.returns-clause-bound
returns-clause-bound c = (omega (arith, ints), omega (arith, ints))
