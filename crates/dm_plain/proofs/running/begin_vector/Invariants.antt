use Rattle.std.proofs.Common.{◌≡◌, take}
use Rattle.std.specs.Prelude.{reverse}
use Rattle.dm_event.specs.Txns.{same_txn}
use Rattle.dm_model.specs.Words.{latest}
use Rattle.dm_model.specs.Runs.{begin_of}
use Rattle.dm_plain.proofs.running.begin_vector.Given as goal

abbrev pub invariant-loop-step : goal.invariant-loop-step
invariant-loop-step l = l.last ≡ latest (begin_of (same_txn l.txn)) (reverse (take l.step-index l.steps))
