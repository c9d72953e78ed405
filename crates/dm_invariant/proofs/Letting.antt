-- What an attempt leaves that holds nothing any more.
use Rattle.std.proofs.Common.{ℕ, zero, suc, ◌≡◌, ◌≤◌, ◌==◌, Bool, true, false, not, List, inl, inr, sym, ap, ◌∙◌, arith}
use Rattle.std.proofs.lemmas.Bool.{and_parts, cases_Bool, true≢false}
use Rattle.std.specs.List.{list_any}
use Rattle.dm_event.specs.declared.step.TxnId.{TxnId}
use Rattle.dm_locks.proofs.Counts.{count-append, count_weaker, none_is_no_count}
use Rattle.dm_locks.specs.Claims.{is_of, is_of_session, without}
use Rattle.dm_locks.specs.Locks.{Locks, everyone, given_back}
use Rattle.dm_locks.specs.Sound.{Sound}
use Rattle.dm_locks.specs.declared.claim.Claim.{Claim}
use Rattle.dm_model.specs.Words.{count_of}
use Rattle.dm_invariant.proofs.Steps.{none_to_drop}
use Rattle.dm_invariant.specs.Writing.{let_go}

-- who holds nothing leaves all as it is
pub holds_nothing : (txn : TxnId) (locks : Locks) → list_any (is_of txn) locks.holders ≡ false → locks ≡ let_go txn locks
holds_nothing txn locks h = ap (λ (cs : List Claim). record locks { holders = cs }) (sym (none_to_drop txn locks.holders h))

-- where some pass, their count isn't 0
some_counted : {X : Type 0} (p : X → Bool) (xs : List X) → list_any p xs ≡ true → 1 ≤ count_of p xs
some_counted p xs h = positive (count_of p xs) (ap (λ (b : Bool). not b) (sym h) ∙ none_is_no_count p xs)
  where
    positive : (n : ℕ) → false ≡ (n == 0) → 1 ≤ n
    positive zero e = absurd (true≢false (sym e))
    positive (suc n) e = omega arith

-- a session has one claim at most, so who holds keys doesn't wait
waits_not : (txn : TxnId) (locks : Locks) → Sound locks → list_any (is_of txn) locks.holders ≡ true → list_any (is_of txn) locks.waiters ≡ false
waits_not txn locks s h = elim (cases_Bool (list_any (is_of txn) locks.waiters)) [
  | inl w ↦ absurd (omega (
    arith,
    some_counted (is_of txn) locks.holders h,
    some_counted (is_of txn) locks.waiters w,
    count-append (is_of txn) locks.holders locks.waiters,
    count_weaker (is_of txn) (is_of_session txn.session) same_session (everyone locks),
    s.one_claim txn.session,
  ))
  | inr none ↦ none
]
  where
    same_session : (c : Claim) → is_of txn c ≡ true → is_of_session txn.session c ≡ true
    same_session c e = (and_parts (c.txn.session == txn.session) _ e).0

pub gives_back : (txn : TxnId) (locks new : Locks) → Sound locks → list_any (is_of txn) locks.holders ≡ true → new ≡ given_back locks txn
    → new ≡ let_go txn locks
gives_back txn locks new s h e =
    e ∙ ap (λ (cs : List Claim). record { holders = without txn locks.holders; waiters = cs }) (none_to_drop txn locks.waiters (waits_not txn locks s h))
