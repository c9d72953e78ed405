-- What an answer says of each claim.
use Rattle.std.proofs.Common.{ℕ, ◌≡◌, true, List, [], ◌∷◌, ◌++◌, Option, Some, None, refl}
use Rattle.std.specs.List.{AllByRecursion as Each, filter_map, cons_option}
use Rattle.std.specs.Prelude.{option_map}
use Rattle.dm_locks.specs.Claims.{answer, first_or_got, obstacle}
use Rattle.dm_locks.specs.Locks.{is_got}
use Rattle.dm_locks.specs.declared.claim.Claim.{Claim}
use Rattle.dm_locks.specs.declared.table.LockAnswer.{LockAnswer}
use Rattle.dm_locks.specs.declared.table.LockAnswer.TheVariants.{Got, Waits}
use Rattle.dm_model.specs.Allowed.{common_key}

pub got_from : (a : LockAnswer) → is_got a ≡ true → a ≡ Got
got_from Got e = refl
got_from (Waits by key) e = absurd (cc (e))

-- what is said of the claims in front decides, else what is said of the others
pub answer_after_got : (keys : List ℕ) (claims more : List Claim) → answer keys claims ≡ Got → answer keys (claims ++ more) ≡ answer keys more
answer_after_got keys [] more h = refl
answer_after_got keys (claim ∷ claims) more h = step (answer_after_got keys claims more) (common_key keys claim.keys) h
  where
    step : (answer keys claims ≡ Got → answer keys (claims ++ more) ≡ answer keys more) → (o : Option ℕ)
        → first_or_got (cons_option (option_map (λ key. Waits claim.txn key) o) (filter_map (obstacle keys) claims)) ≡ Got
        → first_or_got (cons_option (option_map (λ key. Waits claim.txn key) o) (filter_map (obstacle keys) (claims ++ more))) ≡ answer keys more
    step rest None e = rest e
    step rest (Some key) e = absurd (cc (e))

pub answer_stays : (keys : List ℕ) (claims more : List Claim) → (answer keys claims ≡ Got → ⊥) → answer keys (claims ++ more) ≡ answer keys claims
answer_stays keys [] more h = absurd (h refl)
answer_stays keys (claim ∷ claims) more h = step (answer_stays keys claims more) (common_key keys claim.keys) h
  where
    step : ((answer keys claims ≡ Got → ⊥) → answer keys (claims ++ more) ≡ answer keys claims) → (o : Option ℕ)
        → (first_or_got (cons_option (option_map (λ key. Waits claim.txn key) o) (filter_map (obstacle keys) claims)) ≡ Got → ⊥)
        → first_or_got (cons_option (option_map (λ key. Waits claim.txn key) o) (filter_map (obstacle keys) (claims ++ more))) ≡ first_or_got
        (cons_option (option_map (λ key. Waits claim.txn key) o) (filter_map (obstacle keys) claims))
    step rest None n = rest n
    step rest (Some key) n = refl

-- Got says that no claim shares a key
pub got_shares_none : (keys : List ℕ) (claims : List Claim) → answer keys claims ≡ Got → Each (λ claim. common_key keys claim.keys ≡ None) claims
got_shares_none keys [] h = tt
got_shares_none keys (claim ∷ claims) h = step (got_shares_none keys claims) (common_key keys claim.keys) refl h
  where
    step : (answer keys claims ≡ Got → Each (λ other. common_key keys other.keys ≡ None) claims) → (o : Option ℕ) → common_key keys claim.keys ≡ o
        → first_or_got (cons_option (option_map (λ key. Waits claim.txn key) o) (filter_map (obstacle keys) claims)) ≡ Got
        → (common_key keys claim.keys ≡ None) × Each (λ other. common_key keys other.keys ≡ None) claims
    step rest None e g = (e, rest g)
    step rest (Some key) e g = absurd (cc (g))

pub got_where_none : (keys : List ℕ) (claims : List Claim) → Each (λ claim. common_key keys claim.keys ≡ None) claims → answer keys claims ≡ Got
got_where_none keys [] h = refl
got_where_none keys (claim ∷ claims) h = step (got_where_none keys claims h.1) (common_key keys claim.keys) h.0
  where
    step : answer keys claims ≡ Got → (o : Option ℕ) → o ≡ None → first_or_got
        (cons_option (option_map (λ key. Waits claim.txn key) o) (filter_map (obstacle keys) claims)) ≡ Got
    step rest None e = rest
    step rest (Some key) e = absurd (cc (e))
