-- Claims on keys, and what one who asks for keys is answered.
use Rattle.std.specs.Prelude.{ℕ, ◌≡◌, ◌≤◌, Bool, IsTrue, ◌==◌, not, if◌then◌else◌, List, [], ◌∷◌, ◌++◌, Contains, Option, option_map, find, filter, filter_map}
use Rattle.dm_event.specs.Txns.{same_txn}
use Rattle.dm_event.specs.declared.step.TxnId.{TxnId}
use Rattle.dm_locks.specs.declared.claim.Claim.{Claim}
use Rattle.dm_locks.specs.declared.table.LockAnswer.{LockAnswer}
use Rattle.dm_locks.specs.declared.table.LockAnswer.TheVariants.{Got, Waits}
use Rattle.dm_model.specs.Allowed.{common_key}
use Rattle.dm_model.specs.Tests.{is_among}

-- whose claim it is
abbrev pub is_of : TxnId → Claim → Bool
is_of txn claim = same_txn claim.txn txn

abbrev pub is_of_session : ℕ → Claim → Bool
is_of_session session claim = claim.txn.session == session

abbrev pub has_key : ℕ → Claim → Bool
has_key key claim = is_among claim.keys key

-- the transaction's claim
abbrev pub claim_of : TxnId → List Claim → Option Claim
claim_of txn claims = find (is_of txn) claims

-- the claims but for the transaction's
abbrev pub without : TxnId → List Claim → List Claim
without txn claims = filter (λ claim. not (is_of txn claim)) claims

-- the claims of other sessions
abbrev pub of_others : ℕ → List Claim → List Claim
of_others session claims = filter (λ claim. not (is_of_session session claim)) claims

-- the claims in front of the transaction's, all where it has none
abbrev pub before : TxnId → List Claim → List Claim
before txn [] = []
before txn (claim ∷ claims) = if is_of txn claim then [] else claim ∷ before txn claims

-- the claim stands in the way of the keys where it has one of them too, of which the least is told
abbrev pub obstacle : List ℕ → Claim → Option LockAnswer
obstacle keys claim = option_map (λ key. Waits claim.txn key) (common_key keys claim.keys)

-- the first answer, Got where there is none
abbrev pub first_or_got : List LockAnswer → LockAnswer
first_or_got [] = Got
first_or_got (answer ∷ answers) = answer

-- the first of the claims that shares a key decides
abbrev pub answer : List ℕ → List Claim → LockAnswer
answer keys claims = first_or_got (filter_map (obstacle keys) claims)

-- ---- what an answer says

-- the claim has the key too
abbrev pub IsCommon : List ℕ → Claim → ℕ → Type 0
IsCommon keys claim key = IsTrue (is_among keys key) × IsTrue (has_key key claim)

-- the claim is the first that shares a key, and this is the least key that it shares
pub record IsFirst (keys : List ℕ) (claims : List Claim) (claim : Claim) (key : ℕ) : Type 0 where
  pub front : List Claim
  pub rest : List Claim
  pub place : claims ≡ front ++ claim ∷ rest
  pub none_in_front : (other : Claim) → Contains front other → (shared : ℕ) → ¬ IsCommon keys other shared
  pub shared : IsCommon keys claim key
  pub least : (other : ℕ) → IsCommon keys claim other → key ≤ other
