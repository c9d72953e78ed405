-- Where the first that passes a test stands, and the list without it.
use Rattle.std.proofs.Common.{ℕ, suc, ◌+◌, ◌<◌, ◌≤◌, ◌≡◌, Bool, true, false, not, cond, List, [], ◌∷◌, ◌++◌, length, get_or, take, Some, refl, sym, ap, ◌∙◌}
use Rattle.std.proofs.Common.{arith}
use Rattle.std.specs.List.{filter, list_any, remove, position_or_len}
use Rattle.std.specs.Prelude.{find, Option, None, IsSome, is_some, option_map, unwrap_or, if◌then◌else◌, ◌||◌}
use Rattle.dm_event.specs.declared.step.TxnId.{TxnId}
use Rattle.dm_locks.proofs.Counts.{none_counted}
use Rattle.dm_locks.specs.Claims.{is_of, before, answer, claim_of, without}
use Rattle.dm_locks.specs.Locks.{Locks, answer_at_poll, granted, is_got, polled}
use Rattle.dm_locks.specs.declared.table.LockAnswer.{LockAnswer}
use Rattle.dm_locks.specs.declared.table.LockAnswer.TheVariants.{Got}
use Rattle.dm_locks.specs.declared.claim.Claim.{Claim}
use Rattle.dm_model.specs.Words.{count_of}

pub place_within : {X : Type 0} (p : X → Bool) (x : X) (xs : List X) → find p xs ≡ Some x → position_or_len p xs < length xs
place_within p x [] h = absurd (cc (h))
place_within p x (y ∷ ys) h = step (p y) h (place_within p x ys)
  where
    step : (b : Bool) → cond b (Some y) (find p ys) ≡ Some x → (find p ys ≡ Some x → position_or_len p ys < length ys)
        → cond (not b) (1 + position_or_len p ys) 0 < length (y ∷ ys)
    step true e rest = omega arith
    step false e rest = let l = rest e in omega arith

pub place_at : {X : Type 0} (p : X → Bool) (x d : X) (xs : List X) → find p xs ≡ Some x → get_or xs (position_or_len p xs) d ≡ x
place_at p x d [] h = absurd (cc (h))
place_at p x d (y ∷ ys) h = step (p y) h (place_at p x d ys)
  where
    step : (b : Bool) → cond b (Some y) (find p ys) ≡ Some x → (find p ys ≡ Some x → get_or ys (position_or_len p ys) d ≡ x)
        → get_or (y ∷ ys) (cond (not b) (1 + position_or_len p ys) 0) d ≡ x
    step true e rest = cc (e)
    step false e rest = let more : 1 + position_or_len p ys ≡ suc (position_or_len p ys) = omega arith in ap (λ (n : ℕ). get_or (y ∷ ys) n d) more ∙ rest e

pub take_before : (txn : TxnId) (claims : List Claim) → take (position_or_len (is_of txn) claims) claims ≡ before txn claims
take_before txn [] = refl
take_before txn (claim ∷ claims) = step (take_before txn claims) (is_of txn claim)
  where
    step : take (position_or_len (is_of txn) claims) claims ≡ before txn claims → (b : Bool)
        → take (cond (not b) (1 + position_or_len (is_of txn) claims) 0) (claim ∷ claims) ≡ cond b [] (claim ∷ before txn claims)
    step rest true = refl
    step rest false =
        let more : 1 + position_or_len (is_of txn) claims ≡ suc (position_or_len (is_of txn) claims) = omega arith in
        ap (λ (n : ℕ). take n (claim ∷ claims)) more ∙ ap (λ (cs : List Claim). claim ∷ cs) rest

keeps_step : {X : Type 0} (b : Bool) (x : X) (xs ys : List X) → b ≡ false → ys ≡ xs → cond (not b) (x ∷ ys) ys ≡ x ∷ xs
keeps_step true x xs ys e h = absurd (cc (e))
keeps_step false x xs ys e h = ap (λ (zs : List _). x ∷ zs) h

pub filter_keeps : {X : Type 0} (p : X → Bool) (xs : List X) → count_of p xs ≡ 0 → filter (λ x. not (p x)) xs ≡ xs
filter_keeps p [] h = refl
filter_keeps p (x ∷ xs) h =
    let none = none_counted p (x ∷ xs) h in
    keeps_step (p x) x xs (filter (λ y. not (p y)) xs) none.0 (filter_keeps p xs (counted (p x) h))
  where
    counted : (b : Bool) → cond b (suc (count_of p xs)) (count_of p xs) ≡ 0 → count_of p xs ≡ 0
    counted true e = absurd (omega arith)
    counted false e = e

-- to remove the only one that passes is to keep the others
pub remove_only : {X : Type 0} (p : X → Bool) (x : X) (xs : List X) → find p xs ≡ Some x → count_of p xs ≤ 1
    → remove xs (position_or_len p xs) ≡ filter (λ y. not (p y)) xs
remove_only p x [] h once = absurd (cc (h))
remove_only p x (y ∷ ys) h once = step (p y) h once (remove_only p x ys)
  where
    step : (b : Bool) → cond b (Some y) (find p ys) ≡ Some x → cond b (suc (count_of p ys)) (count_of p ys) ≤ 1
        → (find p ys ≡ Some x → count_of p ys ≤ 1 → remove ys (position_or_len p ys) ≡ filter (λ z. not (p z)) ys)
        → remove (y ∷ ys) (cond (not b) (1 + position_or_len p ys) 0) ≡ cond (not b) (y ∷ filter (λ z. not (p z)) ys) (filter (λ z. not (p z)) ys)
    step true e c rest = sym (filter_keeps p ys (omega arith))
    step false e c rest =
        let more : 1 + position_or_len p ys ≡ suc (position_or_len p ys) = omega arith in
        ap (λ (n : ℕ). remove (y ∷ ys) n) more ∙ ap (λ (zs : List _). y ∷ zs) (rest e c)

pub some_of : {X : Type 0} (o : Option X) → IsSome o → (x : X) × (o ≡ Some x)
some_of None h = absurd (cc (h))
some_of (Some x) h = (x, refl)

pub any_is_found : {X : Type 0} (p : X → Bool) (xs : List X) → list_any p xs ≡ is_some (find p xs)
any_is_found p [] = refl
any_is_found p (x ∷ xs) = by_test (p x) (any_is_found p xs)
  where
    by_test : (b : Bool) → list_any p xs ≡ is_some (find p xs) → (b || list_any p xs) ≡ is_some (cond b (Some x) (find p xs))
    by_test true rest = refl
    by_test false rest = rest

-- what the waiter at its place is answered
pub answered_at : (txn : TxnId) (claim : Claim) (holders waiters : List Claim) (at : ℕ) (keys : List ℕ) → claim_of txn waiters ≡ Some claim
    → at ≡ position_or_len (is_of txn) waiters → keys ≡ claim.keys
    → answer keys (holders ++ take at waiters) ≡ answer_at_poll (record { holders = holders; waiters = waiters }) txn
answered_at txn claim holders waiters at keys found place same =
    ap (λ (n : ℕ). answer keys (holders ++ take n waiters)) place
    ∙ ap (λ (cs : List Claim). answer keys (holders ++ cs)) (take_before txn waiters)
    ∙ ap (λ (ks : List ℕ). answer ks (holders ++ before txn waiters)) (same ∙ sym (ap (λ (o : Option Claim). unwrap_or (option_map (λ c. c.keys) o) []) found))

-- ---- a poll

pub polled_got : (txn : TxnId) (claim : Claim) (locks : Locks) → answer_at_poll locks txn ≡ Got → claim_of txn locks.waiters ≡ Some claim
    → polled locks txn ≡ record { holders = locks.holders ++ claim ∷ []; waiters = without txn locks.waiters }
polled_got txn claim locks got found =
    ap (λ (a : LockAnswer). if is_got a then unwrap_or (option_map (granted locks txn) (claim_of txn locks.waiters)) locks else locks) got
    ∙ ap (λ (o : Option Claim). unwrap_or (option_map (granted locks txn) o) locks) found
