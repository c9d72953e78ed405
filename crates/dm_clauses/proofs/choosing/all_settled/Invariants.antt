use Rattle.std.proofs.Common.{◌≡◌, drop}
use Rattle.std.specs.List.{list_all}
use Rattle.dm_clauses.specs.Choosing.{is_settled}
use Rattle.dm_clauses.proofs.choosing.all_settled.Given as goal

abbrev pub invariant-loop-key : goal.invariant-loop-key
invariant-loop-key g l = list_all (is_settled (g.T.Told.layout l.told) (g.T.Told.past l.told) l.site) (drop l.key-index l.keys) ≡ list_all
    (is_settled (g.T.Told.layout l.told) (g.T.Told.past l.told) l.site) l.keys
