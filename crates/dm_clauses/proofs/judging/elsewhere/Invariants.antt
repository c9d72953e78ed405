use Rattle.std.proofs.Common.{◌≡◌, drop}
use Rattle.dm_clauses.proofs.KeysAway.{left}
use Rattle.dm_clauses.proofs.judging.elsewhere.Given as goal

abbrev pub invariant-loop-key : goal.invariant-loop-key
invariant-loop-key g l = left (g.T.Told.layout l.told) (g.T.Told.past l.told) l.site (drop l.key-index l.keys) ≡ left (g.T.Told.layout l.told) (g.T.Told.past l.told) l.site l.keys
