use Rattle.dm_restart.proofs.Maxima.{Raises}
use Rattle.dm_restart.proofs.floors.raise.Given as goal

abbrev pub invariant-loop-site : goal.invariant-loop-site
invariant-loop-site l = Raises l.initial.vector l.other l.site l.vector
