-- Attempts compared.
use Rattle.std.specs.Prelude.{Bool, ◌==◌, ◌&&◌}
use Rattle.dm_event.specs.declared.step.TxnId.{TxnId}

abbrev pub same_txn : TxnId → TxnId → Bool
same_txn a b = (a.session == b.session) && ((a.number == b.number) && (a.attempt == b.attempt))
