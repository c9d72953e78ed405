use Rattle.std.proofs.Common.{◌≡◌, drop}
use Rattle.std.specs.Prelude.{is_some}
use Rattle.dm_model.specs.Values.{written}
use Rattle.dm_body.proofs.fitting.has_key.Given as goal

abbrev pub invariant-loop-pair : goal.invariant-loop-pair
invariant-loop-pair l = is_some (written (drop l.pair-index l.writes) l.key) ≡ is_some (written l.writes l.key)
