use Rattle.std.proofs.Common.{◌∙◌, ap, List}
use Rattle.std.specs.List.{list_any}
use Rattle.dm_locks.proofs.Places.{any_is_found}
use Rattle.dm_locks.specs.Claims.{is_of}
use Rattle.dm_locks.specs.Locks.{Locks}
use Rattle.dm_locks.specs.declared.claim.Claim.{Claim}
use Rattle.dm_locks.proofs.table.LockTable.waits.Goals as goal

pub returns : goal.returns
returns c =
    c.has_claim.ensures
    ∙ ap (λ (cs : List Claim). list_any (is_of c.args.txn) cs) c.deref.ensures.value
    ∙ ap (λ (locks : Locks). list_any (is_of c.args.txn) locks.waiters) c.self.view_is
    ∙ any_is_found (is_of c.args.txn) c.args.self.now.waiters
