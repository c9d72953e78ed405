-- The ranges of the numbers in a step.
use Rattle.std.specs.List.{list_all}
use Rattle.std.specs.Prelude.{ℕ, Bool, true, false, ◌==◌, nat_le, nat_lt, ◌&&◌, not, List, [], ◌∷◌, length, map}
use Rattle.dm_event.specs.Layout.{Layout, is_site, is_part, is_key, is_session}
use Rattle.dm_event.specs.declared.limits.TheConstants.{MAX_KEYS, MAX_OPS}
use Rattle.dm_event.specs.declared.step.Cause.{Cause}
use Rattle.dm_event.specs.declared.step.Cause.TheVariants as cause
use Rattle.dm_event.specs.declared.step.Entry.{Entry}
use Rattle.dm_event.specs.declared.step.Op.{Op}
use Rattle.dm_event.specs.declared.step.Op.TheVariants.{Read, Write, Add}
use Rattle.dm_event.specs.declared.step.Pair.{Pair}
use Rattle.dm_event.specs.declared.step.Pending.TheVariants as pending
use Rattle.dm_event.specs.declared.step.Said.{Said}
use Rattle.dm_event.specs.declared.step.Said.TheVariants as said
use Rattle.dm_event.specs.declared.step.Step.{Step}
use Rattle.dm_event.specs.declared.step.Step.TheVariants.{Route, Reply, Ask, Settle, Begin, Moved, Commit, End, Fail, Refresh, Release, Grant, Doubt, Restart}
use Rattle.dm_event.specs.declared.step.TxnId.{TxnId}
use Rattle.dm_event.specs.declared.step.Want.{Want}
use Rattle.dm_event.specs.declared.step.Want.TheVariants as want
use Rattle.dm_model.specs.Tests.{same_byte}

-- each key is above the one before it
abbrev pub is_ascending : List ℕ → Bool
is_ascending [] = true
is_ascending (x ∷ []) = true
is_ascending (x ∷ y ∷ xs) = nat_lt x y && is_ascending (y ∷ xs)

module _ (layout : Layout) where
  -- numbers and attempts count from 1
  abbrev pub is_txn : TxnId → Bool
  is_txn t = is_session t.session && (nat_le 1 t.number && nat_le 1 t.attempt)

  -- a component for each site
  abbrev pub is_vector : List ℕ → Bool
  is_vector v = length v == layout.sites

  abbrev pub is_declared : List ℕ → Bool
  is_declared keys = is_ascending keys && (nat_le (length keys) MAX_KEYS && list_all (is_key layout) keys)

  abbrev pub is_op : Op → Bool
  is_op (Read key) = is_key layout key
  is_op (Write key value) = is_key layout key
  is_op (Add key by) = is_key layout key

  abbrev pub are_ops : List Op → Bool
  are_ops ops = nat_le (length ops) MAX_OPS && list_all is_op ops

  abbrev pub are_pairs : List Pair → Bool
  are_pairs ps = list_all (λ p. is_key layout p.key) ps

  -- the written keys ascend
  abbrev pub is_entry : Entry → Bool
  is_entry e =
      is_txn e.txn && (is_site layout e.origin && (is_vector e.begin
      && (are_ops e.ops && (are_pairs e.reads && (are_pairs e.writes && is_ascending (map (λ p. p.key) e.writes))))))

  abbrev pub is_want : Want → Bool
  is_want (want.Txn keys) = is_declared keys
  is_want (want.Place part) = is_part layout part
  is_want want.Restart = true

  -- in damage the byte that was read differs from the one that was written
  abbrev pub is_cause : Cause → Bool
  is_cause (cause.Undeclared key) = is_key layout key
  is_cause (cause.Log site) = is_site layout site
  is_cause (cause.Damage site place read written) = is_site layout site && not (same_byte read written)
  is_cause cause.Memory = true

  -- a cause for which an attempt fails at the site: its own log, or memory
  abbrev pub is_cause_at : ℕ → Cause → Bool
  is_cause_at i (cause.Undeclared key) = false
  is_cause_at i (cause.Log site) = site == i
  is_cause_at i (cause.Damage site place read written) = site == i
  is_cause_at i cause.Memory = true

  abbrev pub is_said : Said → Bool
  is_said (said.Committed site seq) = is_site layout site
  is_said (said.Read site) = is_site layout site
  is_said (said.InDoubt site) = is_site layout site
  is_said (said.Placed part site epoch) = is_part layout part && is_site layout site
  is_said (said.Restarted site) = is_site layout site
  is_said (said.Refused why) = is_cause why

  -- a Doubt has the shape of its pending step at that site, which for a commit is the origin
  abbrev pub is_shaped : Step → Bool
  is_shaped (Route txn want min site choice) = is_txn txn && (is_want want && (is_vector min && is_site layout site))
  is_shaped (Reply session number said) = is_session session && (nat_le 1 number && is_said said)
  is_shaped (Ask part epoch to txn) = is_part layout part && (is_site layout to && is_txn txn)
  is_shaped (Settle part epoch) = is_part layout part
  is_shaped (Begin site txn begin) = is_site layout site && (is_txn txn && is_vector begin)
  is_shaped (Moved site txn) = is_site layout site && is_txn txn
  is_shaped (Commit entry) = is_entry entry
  is_shaped (End site txn ops reads) = is_site layout site && (is_txn txn && (are_ops ops && are_pairs reads))
  is_shaped (Fail site txn cause) = is_site layout site && (is_txn txn && (is_cause cause && is_cause_at site cause))
  is_shaped (Refresh site origin) = is_site layout site && is_site layout origin
  is_shaped (Release site part epoch to vector) = is_site layout site && (is_part layout part && (is_site layout to && is_vector vector))
  is_shaped (Grant site part epoch vector) = is_site layout site && (is_part layout part && is_vector vector)
  is_shaped (Doubt site (pending.Commit entry)) = is_site layout site && (is_entry entry && (entry.origin == site))
  is_shaped (Doubt site (pending.Release part epoch to vector)) = is_site layout site && (is_part layout part && (is_site layout to && is_vector vector))
  is_shaped (Doubt site (pending.Grant part epoch vector)) = is_site layout site && (is_part layout part && is_vector vector)
  is_shaped (Restart site vector found) = is_site layout site && is_vector vector
