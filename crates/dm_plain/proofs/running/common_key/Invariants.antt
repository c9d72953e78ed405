use Rattle.std.proofs.Common.{◌≡◌, drop}
use Rattle.std.specs.Prelude.{find}
use Rattle.dm_model.specs.Tests.{is_among}
use Rattle.dm_plain.proofs.running.common_key.Given as goal

abbrev pub invariant-loop-key : goal.invariant-loop-key
invariant-loop-key l = find (is_among l.others) (drop l.key-index l.keys) ≡ find (is_among l.others) l.keys
