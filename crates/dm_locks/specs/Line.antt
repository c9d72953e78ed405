-- What is so once an attempt has asked for its keys, or asked again.
use Rattle.std.specs.List.{AllByRecursion as Each}
use Rattle.std.specs.Prelude.{ℕ, ◌≡◌, IsTrue, List, [], ◌∷◌, ◌++◌, Contains, None}
use Rattle.dm_event.specs.declared.step.TxnId.{TxnId}
use Rattle.dm_locks.specs.Claims.{IsFirst, is_of_session, of_others}
use Rattle.dm_locks.specs.Locks.{Locks, ahead, in_line}
use Rattle.dm_locks.specs.declared.claim.Claim.{Claim}
use Rattle.dm_locks.specs.declared.table.LockAnswer.{LockAnswer}
use Rattle.dm_locks.specs.declared.table.LockAnswer.TheVariants.{Got, Waits}
use Rattle.dm_model.specs.Allowed.{common_key}

-- none of the claims shares a key
abbrev pub IsFree : List ℕ → List Claim → Type 0
IsFree keys claims = Each (λ claim. common_key keys claim.keys ≡ None) claims

-- the claim holds from now on: nobody ahead of it shared a key, and its session waits for nothing
pub record IsServed (claim : Claim) (old new : Locks) : Type 0 where
  pub free : IsFree claim.keys (ahead claim.txn (in_line old claim))
  pub holders : new.holders ≡ old.holders ++ claim ∷ []
  pub waiters : new.waiters ≡ of_others claim.txn.session old.waiters

-- the claim waits, alone of its session: of those ahead of it this transaction is the first that shares a key, and this is the least such key
pub record IsHeldUp (claim : Claim) (old new : Locks) (by : TxnId) (key : ℕ) : Type 0 where
  pub locks : new ≡ in_line old claim
  pub there : Contains new.waiters claim
  pub alone : Each (λ other. IsTrue (is_of_session claim.txn.session other) → other ≡ claim) new.waiters
  pub obstacle : (other : Claim) × (other.txn ≡ by) × IsFirst claim.keys (ahead claim.txn new) other key

-- what the claim's answer says of the table before and after
abbrev pub Taken : Claim → Locks → Locks → LockAnswer → Type 0
Taken claim old new Got = IsServed claim old new
Taken claim old new (Waits by key) = IsHeldUp claim old new by key
