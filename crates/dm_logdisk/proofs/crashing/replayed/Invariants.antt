use Rattle.dm_logdisk.proofs.Replayed.{Replays}
use Rattle.dm_logdisk.proofs.crashing.replayed.Given as goal

abbrev pub invariant-loop-change : goal.invariant-loop-change
invariant-loop-change l = Replays l.first l.changes l.pieces l.change-index l.done l.bytes.items
