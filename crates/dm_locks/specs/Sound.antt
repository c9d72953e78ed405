-- What holds of every lock table.
use Rattle.std.specs.List.{AllByRecursion as Each}
use Rattle.std.specs.Prelude.{ℕ, ◌≤◌}
use Rattle.dm_event.specs.declared.limits.TheConstants.{MAX_SESSIONS}
use Rattle.dm_locks.specs.Claims.{has_key, is_of_session}
use Rattle.dm_locks.specs.Locks.{Locks, everyone}
use Rattle.dm_locks.specs.declared.claim.Claim.{Claim}
use Rattle.dm_model.specs.Words.{count_of}

abbrev pub InRange : Claim → Type 0
InRange claim = (1 ≤ claim.txn.session) × (claim.txn.session ≤ MAX_SESSIONS)

-- a session has one claim at most, and a key has one holder at most
pub record Sound (locks : Locks) : Type 0 where
  pub in_range : Each InRange (everyone locks)
  pub one_claim : (session : ℕ) → count_of (is_of_session session) (everyone locks) ≤ 1
  pub one_holder : (key : ℕ) → count_of (has_key key) locks.holders ≤ 1
