-- Which steps have a line: those with each number in the range of its type and of the layout.
use Rattle.std.specs.Prelude.{ℕ, ℤ, pos, negsuc, ◌^◌, List, length, Option, Some, None, Bool, true, false, ◌==◌, ◌&&◌, nat_lt}
use Rattle.std.specs.List.{list_all}
use Rattle.dm_event.specs.Layout.{Layout, is_site, is_part, is_session}
use Rattle.dm_event.specs.declared.step.Cause.{Cause}
use Rattle.dm_event.specs.declared.step.Cause.TheVariants.{Undeclared, Log, Damage, Memory}
use Rattle.dm_event.specs.declared.step.Entry.{Entry}
use Rattle.dm_event.specs.declared.step.Op.{Op}
use Rattle.dm_event.specs.declared.step.Op.TheVariants as ops
use Rattle.dm_event.specs.declared.step.Pair.{Pair}
use Rattle.dm_event.specs.declared.step.Pending.{Pending}
use Rattle.dm_event.specs.declared.step.Pending.TheVariants as pendings
use Rattle.dm_event.specs.declared.step.Said.{Said}
use Rattle.dm_event.specs.declared.step.Said.TheVariants as saids
use Rattle.dm_event.specs.declared.step.Step.{Step}
use Rattle.dm_event.specs.declared.step.Step.TheVariants as steps
use Rattle.dm_event.specs.declared.step.TxnId.{TxnId}
use Rattle.dm_event.specs.declared.step.Want.{Want}
use Rattle.dm_event.specs.declared.step.Want.TheVariants as wants
use Rattle.dm_kinds.specs.Ranges.{fit_ops, fit_pairs, fit_keys, ascends, fits_said}

abbrev pub is_u64 : ℕ → Bool
is_u64 n = nat_lt n (2 ^ 64)

abbrev pub is_i64 : ℤ → Bool
is_i64 (pos n) = nat_lt n (2 ^ 63)
is_i64 (negsuc n) = nat_lt n (2 ^ 63)

abbrev pub is_byte : Option ℕ → Bool
is_byte None = true
is_byte (Some byte) = nat_lt byte (2 ^ 8)

-- the values of pairs and ops are 64 bits with a sign
abbrev pub is_op : Op → Bool
is_op (ops.Read key) = true
is_op (ops.Write key value) = is_i64 value
is_op (ops.Add key by) = is_i64 by

abbrev pub is_pair : Pair → Bool
is_pair pair = is_i64 pair.value

unfoldable pub txn_fits : TxnId → Bool
txn_fits txn = is_session txn.session && (nat_lt txn.number (2 ^ 32) && is_u64 txn.attempt)

unfoldable pub vector_fits : Layout → List ℕ → Bool
vector_fits layout v = (length v == layout.sites) && list_all is_u64 v

unfoldable pub ops_fit : Layout → List Op → Bool
ops_fit layout list = fit_ops layout list && list_all is_op list

unfoldable pub pairs_fit : Layout → List Pair → Bool
pairs_fit layout list = fit_pairs layout list && list_all is_pair list

unfoldable pub want_fits : Layout → Want → Bool
want_fits layout (wants.Txn keys) = fit_keys layout keys && ascends keys
want_fits layout (wants.Place part) = is_part layout part
want_fits layout wants.Restart = true

-- the numbers of a cause and of an outcome that have no range but their type's
abbrev pub cause_typed : Cause → Bool
cause_typed (Undeclared key) = true
cause_typed (Log site) = true
cause_typed (Damage site place read written) = is_u64 place && (is_byte read && is_byte written)
cause_typed Memory = true

abbrev pub said_typed : Said → Bool
said_typed (saids.Committed site seq) = is_u64 seq
said_typed (saids.Read site) = true
said_typed (saids.InDoubt site) = true
said_typed (saids.Placed part site epoch) = is_u64 epoch
said_typed (saids.Restarted site) = true
said_typed (saids.Refused cause) = cause_typed cause

-- the cause of a Fail: what is its site's is of the step's site, and no attempt fails for an undeclared key
abbrev pub is_own : ℕ → Cause → Bool
is_own site (Undeclared key) = false
is_own site (Log log) = log == site
is_own site (Damage log place read written) = log == site
is_own site Memory = true

unfoldable pub entry_fits : Layout → Entry → Bool
entry_fits layout e =
    is_site layout e.origin && (txn_fits e.txn && (is_u64 e.seq && (vector_fits layout e.begin
    && (ops_fit layout e.ops && (pairs_fit layout e.reads && pairs_fit layout e.writes)))))

-- a pending commit is of the site that is in doubt about it
unfoldable pub pending_fits : Layout → ℕ → Pending → Bool
pending_fits layout site (pendings.Commit entry) = (site == entry.origin) && entry_fits layout entry
pending_fits layout site (pendings.Release part epoch to vector) =
    is_site layout site && (is_part layout part && (is_u64 epoch && (is_site layout to && vector_fits layout vector)))
pending_fits layout site (pendings.Grant part epoch vector) = is_site layout site && (is_part layout part && (is_u64 epoch && vector_fits layout vector))

unfoldable pub step_fits : Layout → Step → Bool
step_fits layout (steps.Route txn want min site choice) = txn_fits txn && (want_fits layout want && (vector_fits layout min && is_site layout site))
step_fits layout (steps.Reply session number said) = is_session session && (nat_lt number (2 ^ 32) && (fits_said layout said && said_typed said))
step_fits layout (steps.Ask part epoch to txn) = is_part layout part && (is_u64 epoch && (is_site layout to && txn_fits txn))
step_fits layout (steps.Settle part epoch) = is_part layout part && is_u64 epoch
step_fits layout (steps.Begin site txn begin) = is_site layout site && (txn_fits txn && vector_fits layout begin)
step_fits layout (steps.Moved site txn) = is_site layout site && txn_fits txn
step_fits layout (steps.Commit entry) = entry_fits layout entry
step_fits layout (steps.End site txn ops reads) = is_site layout site && (txn_fits txn && (ops_fit layout ops && pairs_fit layout reads))
step_fits layout (steps.Fail site txn cause) = is_site layout site && (txn_fits txn && (is_own site cause && cause_typed cause))
step_fits layout (steps.Refresh site origin) = is_site layout site && is_site layout origin
step_fits layout (steps.Release site part epoch to vector) = pending_fits layout site (pendings.Release part epoch to vector)
step_fits layout (steps.Grant site part epoch vector) = pending_fits layout site (pendings.Grant part epoch vector)
step_fits layout (steps.Doubt site pending) = pending_fits layout site pending
step_fits layout (steps.Restart site vector found) = is_site layout site && vector_fits layout vector
