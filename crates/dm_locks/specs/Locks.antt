-- The lock table as its two lists, and what each call makes of them.
use Rattle.std.specs.Prelude.{ℕ, Bool, true, false, if◌then◌else◌, List, [], ◌∷◌, ◌++◌, is_some, option_map, unwrap_or}
use Rattle.dm_event.specs.declared.step.TxnId.{TxnId}
use Rattle.dm_locks.specs.Claims.{claim_of, without, of_others, before, answer}
use Rattle.dm_locks.specs.declared.claim.Claim.{Claim}
use Rattle.dm_locks.specs.declared.table.LockAnswer.{LockAnswer}
use Rattle.dm_locks.specs.declared.table.LockAnswer.TheVariants.{Got, Waits}

-- who holds keys, and who waits, in the order of asking
pub record Locks : Type 0 where
  pub holders : List Claim
  pub waiters : List Claim

abbrev pub no_locks : Locks
no_locks = record { holders = []; waiters = [] }

abbrev pub everyone : Locks → List Claim
everyone locks = locks.holders ++ locks.waiters

-- the holders, and those who waited before the transaction
abbrev pub ahead : TxnId → Locks → List Claim
ahead txn locks = locks.holders ++ before txn locks.waiters

abbrev pub is_got : LockAnswer → Bool
is_got Got = true
is_got (Waits by key) = false

-- a claim is granted where nobody shares a key with it, else it is the last that waits
abbrev pub asked : Locks → Claim → Locks
asked locks claim =
    if is_got (answer claim.keys (everyone locks)) then record locks { holders = locks.holders ++ claim ∷ [] }
    else record locks { waiters = locks.waiters ++ claim ∷ [] }

-- the keys that the transaction claims
abbrev pub keys_of : TxnId → List Claim → List ℕ
keys_of txn claims = unwrap_or (option_map (λ claim. claim.keys) (claim_of txn claims)) []

-- a waiter is answered for those ahead of it
abbrev pub answer_at_poll : Locks → TxnId → LockAnswer
answer_at_poll locks txn = answer (keys_of txn locks.waiters) (ahead txn locks)

-- the transaction's claim goes from the waiters to the holders
abbrev pub granted : Locks → TxnId → Claim → Locks
granted locks txn claim = record { holders = locks.holders ++ claim ∷ []; waiters = without txn locks.waiters }

-- a waiter's claim is granted where nobody ahead of it shares a key
abbrev pub polled : Locks → TxnId → Locks
polled locks txn =
    if is_got (answer_at_poll locks txn) then unwrap_or (option_map (granted locks txn) (claim_of txn locks.waiters)) locks
    else locks

abbrev pub given_back : Locks → TxnId → Locks
given_back locks txn = record { holders = without txn locks.holders; waiters = without txn locks.waiters }

abbrev pub withdrawn : Locks → TxnId → Locks
withdrawn locks txn = record locks { waiters = without txn locks.waiters }

-- ---- a session's attempts, one after the other

-- its session waits for nothing any more
abbrev pub left_line : Locks → ℕ → Locks
left_line locks session = record locks { waiters = of_others session locks.waiters }

-- the claim in line: where it waits already, else behind all others, in place of what its session waited for
abbrev pub in_line : Locks → Claim → Locks
in_line locks claim =
    if is_some (claim_of claim.txn locks.waiters) then locks
    else record locks { waiters = of_others claim.txn.session locks.waiters ++ claim ∷ [] }

-- a claim that stands in line is polled at once
abbrev pub taken : Locks → Claim → Locks
taken locks claim = polled (in_line locks claim) claim.txn
