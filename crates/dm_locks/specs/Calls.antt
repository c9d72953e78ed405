-- Whole runs of calls.
use Rattle.std.specs.Prelude.{ℕ, ◌≡◌, List, [], ◌∷◌, Some, IfSome, IsSome, IsTrue}
use Rattle.dm_event.specs.declared.step.TxnId.{TxnId}
use Rattle.dm_locks.specs.Claims.{claim_of, has_key, is_of_session}
use Rattle.dm_locks.specs.Locks.{Locks, asked, everyone, given_back, left_line, no_locks, polled, taken, withdrawn}
use Rattle.dm_locks.specs.Sound.{InRange}
use Rattle.dm_locks.specs.declared.claim.Claim.{Claim}
use Rattle.dm_model.specs.Words.{count_of}

-- a call that may change the table
pub data Call : Type 0 where
  Ask : Claim → Call
  Poll : TxnId → Call
  GiveBack : TxnId → Call
  Withdraw : TxnId → Call
  LeaveLine : ℕ → Call
  Take : Claim → Call
  Clear : Call

abbrev pub after : Locks → Call → Locks
after locks (Ask claim) = asked locks claim
after locks (Poll txn) = polled locks txn
after locks (GiveBack txn) = given_back locks txn
after locks (Withdraw txn) = withdrawn locks txn
after locks (LeaveLine session) = left_line locks session
after locks (Take claim) = taken locks claim
after locks Clear = no_locks

-- the table after all the calls, in their order
abbrev pub after_all : Locks → List Call → Locks
after_all locks [] = locks
after_all locks (call ∷ calls) = after_all (after locks call) calls

-- who asks is of a session that has no claim
pub record MayAsk (locks : Locks) (claim : Claim) : Type 0 where
  pub session : InRange claim
  pub no_claim : count_of (is_of_session claim.txn.session) (everyone locks) ≡ 0

-- who takes is of a session that holds nothing, and where it waits already, for these keys
pub record MayTake (locks : Locks) (claim : Claim) : Type 0 where
  pub session : InRange claim
  pub free : count_of (is_of_session claim.txn.session) locks.holders ≡ 0
  pub keys : IfSome (claim_of claim.txn locks.waiters) (λ waiting. waiting.keys ≡ claim.keys)

-- who polls waits
abbrev pub MayCall : Locks → Call → Type 0
MayCall locks (Ask claim) = MayAsk locks claim
MayCall locks (Poll txn) = IsSome (claim_of txn locks.waiters)
MayCall locks (GiveBack txn) = Unit {0}
MayCall locks (Withdraw txn) = Unit {0}
MayCall locks (LeaveLine session) = Unit {0}
MayCall locks (Take claim) = MayTake locks claim
MayCall locks Clear = Unit {0}

-- each call may be made where it comes
abbrev pub IsRun : Locks → List Call → Type 0
IsRun locks [] = Unit {0}
IsRun locks (call ∷ calls) = MayCall locks call × IsRun (after locks call) calls

-- a table that a run of calls leaves of a new one
pub record Reached (locks : Locks) : Type 0 where
  pub calls : List Call
  pub run : IsRun no_locks calls
  pub leaves : after_all no_locks calls ≡ locks

-- the claim waits
abbrev pub IsWaiting : Locks → Claim → Type 0
IsWaiting locks claim = claim_of claim.txn locks.waiters ≡ Some claim

-- the claim waits now, and after each of the calls
abbrev pub WaitsOn : Locks → List Call → Claim → Type 0
WaitsOn locks [] claim = IsWaiting locks claim
WaitsOn locks (call ∷ calls) claim = IsWaiting locks claim × WaitsOn (after locks call) calls claim

-- the claims have a key in common
abbrev pub Share : Claim → Claim → Type 0
Share a b = (key : ℕ) × IsTrue (has_key key a) × IsTrue (has_key key b)
