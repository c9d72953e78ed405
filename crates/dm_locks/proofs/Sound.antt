-- Every call keeps a table sound.
use Rattle.std.proofs.Common.{ℕ, suc, ◌+◌, ◌≤◌, ◌≡◌, Bool, true, false, ◌==◌, not, cond, List, [], ◌∷◌, ◌++◌, get_or, length, Some, None, refl, sym, subst, ap}
use Rattle.std.proofs.Common.{◌∙◌, arith}
use Rattle.std.proofs.lemmas.Bool.{and_parts, eqb-true}
use Rattle.std.proofs.lemmas.List.{length-append}
use Rattle.std.specs.List.{AllByRecursion as Each, filter, position_or_len, remove}
use Rattle.std.specs.Prelude.{IsSome, find, Option, option_map, unwrap_or}
use Rattle.dm_event.specs.declared.limits.TheConstants.{MAX_SESSIONS}
use Rattle.dm_event.specs.declared.step.TxnId.{TxnId}
use Rattle.dm_locks.proofs.Answers.{got_shares_none}
use Rattle.dm_locks.proofs.Counts.{count-append, count-filter, count_none, count_weaker, each_both, each_filter, each_parts, few}
use Rattle.dm_locks.proofs.Places.{place_at, polled_got, remove_only, some_of}
use Rattle.dm_locks.specs.Claims.{answer, before, claim_of, has_key, is_of, is_of_session, without}
use Rattle.dm_locks.specs.Locks.{Locks, answer_at_poll, everyone, keys_of, polled}
use Rattle.dm_locks.specs.Sound.{InRange, Sound}
use Rattle.dm_locks.specs.declared.claim.Claim.{Claim}
use Rattle.dm_locks.specs.declared.table.LockAnswer.TheVariants.{Got}
use Rattle.dm_model.proofs.KeysAndBodies.{no_common}
use Rattle.dm_model.proofs.ListFacts.{each_map, found_each}
use Rattle.dm_model.specs.Allowed.{common_key}
use Rattle.dm_model.specs.Tests.{is_among}
use Rattle.dm_model.specs.Words.{count_of}

pub few_claims : (locks : Locks) → Sound locks → length locks.holders + length locks.waiters ≤ MAX_SESSIONS
few_claims locks h =
    let l : length (everyone locks) ≤ MAX_SESSIONS = few (λ (claim : Claim). claim.txn.session) MAX_SESSIONS (everyone locks) h.in_range h.one_claim in
    let e = length-append locks.holders locks.waiters in
    omega arith

-- ---- counts of one claim

-- one more that passes where none did, or another
one_more : {X : Type 0} (p : X → Bool) (x : X) (n : ℕ) → n ≤ 1 → (p x ≡ true → n ≡ 0) → n + count_of p (x ∷ []) ≤ 1
one_more p x n l z = by_test (p x) z
  where
    by_test : (b : Bool) → (b ≡ true → n ≡ 0) → n + cond b (suc 0) 0 ≤ 1
    by_test true z = let e = z refl in omega arith
    by_test false z = omega arith

-- ---- a claim more

-- a holder that shares no key with the others
pub apart_more : (claim : Claim) (holders : List Claim) → ((key : ℕ) → count_of (has_key key) holders ≤ 1)
    → Each (λ other. common_key claim.keys other.keys ≡ None) holders
    → (key : ℕ) → count_of (has_key key) (holders ++ claim ∷ []) ≤ 1
apart_more claim holders h none key =
    let e = count-append (has_key key) holders (claim ∷ []) in
    let l : count_of (has_key key) holders + count_of (has_key key) (claim ∷ []) ≤ 1 = one_more (has_key key) claim (count_of (has_key key) holders) (h key)
    (λ m. count_none (has_key key) holders (each_map (λ (other : Claim). common_key claim.keys other.keys ≡ None) (λ (other : Claim). has_key key other ≡ false)
    (λ other n. absent other (is_among other.keys key) refl m n) holders none)) in
    omega arith
  where
    absent : (other : Claim) (b : Bool) → is_among other.keys key ≡ b → has_key key claim ≡ true → common_key claim.keys other.keys ≡ None
        → is_among other.keys key ≡ false
    absent other true e m n = absurd (no_common claim.keys other.keys n key m e)
    absent other false e m n = e

session_more : (claim : Claim) (n : ℕ → ℕ) → ((session : ℕ) → n session ≤ 1) → n claim.txn.session ≡ 0 → (session : ℕ)
    → n session + count_of (is_of_session session) (claim ∷ []) ≤ 1
session_more claim n h z session =
    one_more (is_of_session session) claim (n session) (h session) (λ m. ap n (sym (eqb-true claim.txn.session session m)) ∙ z)

pub holds_more : (claim : Claim) (holders waiters : List Claim) → Sound (record { holders = holders; waiters = waiters }) → InRange claim
    → count_of (is_of_session claim.txn.session) (holders ++ waiters) ≡ 0 → Each (λ other. common_key claim.keys other.keys ≡ None) holders
    → Sound (record { holders = holders ++ claim ∷ []; waiters = waiters })
holds_more claim holders waiters h r z none =
    let p = each_parts InRange holders waiters h.in_range in
    record {
      in_range = each_both InRange (holders ++ claim ∷ []) waiters (each_both InRange holders (claim ∷ []) p.0 (r, tt)) p.1;
      one_claim = λ session.
          let a = count-append (is_of_session session) (holders ++ claim ∷ []) waiters in
          let b = count-append (is_of_session session) holders (claim ∷ []) in
          let c = count-append (is_of_session session) holders waiters in
          let l = session_more claim (λ s. count_of (is_of_session s) (holders ++ waiters)) h.one_claim z session in
          omega arith;
      one_holder = apart_more claim holders h.one_holder none;
    }

pub got_holds : (claim : Claim) (holders waiters : List Claim) → Sound (record { holders = holders; waiters = waiters }) → InRange claim
    → count_of (is_of_session claim.txn.session) (holders ++ waiters) ≡ 0 → answer claim.keys (holders ++ waiters) ≡ Got
    → Sound (record { holders = holders ++ claim ∷ []; waiters = waiters })
got_holds claim holders waiters h r z got =
    holds_more claim holders waiters h r z (each_parts (λ other. common_key claim.keys other.keys ≡ None) holders waiters
    (got_shares_none claim.keys (holders ++ waiters) got)).0

pub waits_more : (claim : Claim) (holders waiters : List Claim) → Sound (record { holders = holders; waiters = waiters }) → InRange claim
    → count_of (is_of_session claim.txn.session) (holders ++ waiters) ≡ 0
    → Sound (record { holders = holders; waiters = waiters ++ claim ∷ [] })
waits_more claim holders waiters h r z =
    let p = each_parts InRange holders waiters h.in_range in
    record {
      in_range = each_both InRange holders (waiters ++ claim ∷ []) p.0 (each_both InRange waiters (claim ∷ []) p.1 (r, tt));
      one_claim = λ session.
          let a = count-append (is_of_session session) holders (waiters ++ claim ∷ []) in
          let b = count-append (is_of_session session) waiters (claim ∷ []) in
          let c = count-append (is_of_session session) holders waiters in
          let l = session_more claim (λ s. count_of (is_of_session s) (holders ++ waiters)) h.one_claim z session in
          omega arith;
      one_holder = h.one_holder;
    }

-- ---- a claim less

pub fewer_hold : (kept : Claim → Bool) (holders waiters : List Claim) → Sound (record { holders = holders; waiters = waiters })
    → Sound (record { holders = filter kept holders; waiters = waiters })
fewer_hold kept holders waiters h =
    let p = each_parts InRange holders waiters h.in_range in
    record {
      in_range = each_both InRange (filter kept holders) waiters (each_filter InRange kept holders p.0) p.1;
      one_claim = λ session.
          let a = count-append (is_of_session session) (filter kept holders) waiters in
          let c = count-append (is_of_session session) holders waiters in
          let l = count-filter (is_of_session session) kept holders in
          let n = h.one_claim session in
          omega arith;
      one_holder = λ key.
          let l = count-filter (has_key key) kept holders in
          let n = h.one_holder key in
          omega arith;
    }

pub fewer_wait : (kept : Claim → Bool) (holders waiters : List Claim) → Sound (record { holders = holders; waiters = waiters })
    → Sound (record { holders = holders; waiters = filter kept waiters })
fewer_wait kept holders waiters h =
    let p = each_parts InRange holders waiters h.in_range in
    record {
      in_range = each_both InRange holders (filter kept waiters) p.0 (each_filter InRange kept waiters p.1);
      one_claim = λ session.
          let a = count-append (is_of_session session) holders (filter kept waiters) in
          let c = count-append (is_of_session session) holders waiters in
          let m = count-filter (is_of_session session) kept waiters in
          let n = h.one_claim session in
          omega arith;
      one_holder = h.one_holder;
    }

-- ---- from one list to the other

taken_step : (p q : Claim → Bool) (claim other : Claim) (claims : List Claim) (b : Bool) → cond b (Some other) (find q claims) ≡ Some claim
    → (find q claims ≡ Some claim → count_of p (filter (λ c. not (q c)) claims) + count_of p (claim ∷ []) ≤ count_of p claims)
    → count_of p (cond (not b) (other ∷ filter (λ c. not (q c)) claims) (filter (λ c. not (q c)) claims)) + count_of p (claim ∷ []) ≤ count_of p
    (other ∷ claims)
taken_step p q claim other claims true e rest =
    let same : other ≡ claim = cc (e) in
    let l = count-filter p (λ c. not (q c)) claims in
    let a = count-append p (other ∷ []) claims in
    let b : count_of p (other ∷ []) ≡ count_of p (claim ∷ []) = ap (λ (c : Claim). count_of p (c ∷ [])) same in
    omega arith
taken_step p q claim other claims false e rest =
    let l = rest e in
    let a = count-append p (other ∷ []) claims in
    let b = count-append p (other ∷ []) (filter (λ c. not (q c)) claims) in
    omega arith

-- what is taken out was counted
count_taken : (p q : Claim → Bool) (claim : Claim) (claims : List Claim) → find q claims ≡ Some claim
    → count_of p (filter (λ c. not (q c)) claims) + count_of p (claim ∷ []) ≤ count_of p claims
count_taken p q claim [] h = absurd (cc (h))
count_taken p q claim (other ∷ claims) h = taken_step p q claim other claims (q other) h (count_taken p q claim claims)

pub moves : (txn : TxnId) (claim : Claim) (holders waiters : List Claim) → Sound (record { holders = holders; waiters = waiters })
    → claim_of txn waiters ≡ Some claim → Each (λ other. common_key claim.keys other.keys ≡ None) holders
    → Sound (record { holders = holders ++ claim ∷ []; waiters = without txn waiters })
moves txn claim holders waiters h found none =
    let p = each_parts InRange holders waiters h.in_range in
    record {
      in_range = each_both InRange (holders ++ claim ∷ []) (without txn waiters)
          (each_both InRange holders (claim ∷ []) p.0 (found_each InRange (is_of txn) waiters claim found p.1, tt))
          (each_filter InRange (λ c. not (is_of txn c)) waiters p.1);
      one_claim = λ session.
          let a = count-append (is_of_session session) (holders ++ claim ∷ []) (without txn waiters) in
          let b = count-append (is_of_session session) holders (claim ∷ []) in
          let c = count-append (is_of_session session) holders waiters in
          let l = count_taken (is_of_session session) (is_of txn) claim waiters found in
          let n = h.one_claim session in
          omega arith;
      one_holder = apart_more claim holders h.one_holder none;
    }

-- a transaction has one claim, since its session has
pub one_of_txn : (txn : TxnId) (holders waiters : List Claim) → Sound (record { holders = holders; waiters = waiters }) → count_of (is_of txn) waiters ≤ 1
one_of_txn txn holders waiters h =
    let c = count-append (is_of_session txn.session) holders waiters in
    let l = count_weaker (is_of txn) (is_of_session txn.session) (λ claim m. (and_parts (claim.txn.session == txn.session) _ m).0) waiters in
    let n = h.one_claim txn.session in
    omega arith

-- a waiter whose poll is answered Got
pub got_moves : (txn : TxnId) (claim : Claim) (holders waiters : List Claim) → Sound (record { holders = holders; waiters = waiters })
    → claim_of txn waiters ≡ Some claim → answer_at_poll (record { holders = holders; waiters = waiters }) txn ≡ Got
    → Sound (record { holders = holders ++ claim ∷ []; waiters = without txn waiters })
got_moves txn claim holders waiters h found got =
    let keys : keys_of txn waiters ≡ claim.keys = ap (λ (o : Option Claim). unwrap_or (option_map (λ c. c.keys) o) []) found in
    let answered : answer claim.keys (holders ++ before txn waiters) ≡ Got = ap (λ (ks : List ℕ). answer ks (holders ++ before txn waiters)) (sym keys) ∙ got in
    moves txn claim holders waiters h found (each_parts (λ other. common_key claim.keys other.keys ≡ None) holders (before txn waiters)
    (got_shares_none claim.keys (holders ++ before txn waiters) answered)).0

-- the lists after it, as a poll makes them
pub record Moved (txn : TxnId) (holders waiters new_holders new_waiters : List Claim) : Type 0 where
  pub sound : Sound (record { holders = new_holders; waiters = new_waiters })
  pub polled : record { holders = new_holders; waiters = new_waiters } ≡ polled (record { holders = holders; waiters = waiters }) txn

pub moved_by : (txn : TxnId) (mover : Claim) (at : ℕ) (holders waiters new_holders new_waiters : List Claim)
    → Sound (record { holders = holders; waiters = waiters })
    → IsSome (claim_of txn waiters) → answer_at_poll (record { holders = holders; waiters = waiters }) txn ≡ Got → at ≡ position_or_len (is_of txn) waiters
    → mover ≡ get_or waiters at mover → new_holders ≡ holders ++ mover ∷ [] → new_waiters ≡ remove waiters at
    → Moved txn holders waiters new_holders new_waiters
moved_by txn mover at holders waiters new_holders new_waiters h waits got place value pushed removed =
    let f = some_of (claim_of txn waiters) waits in
    let taken : mover ≡ f.0 = value ∙ ap (λ (n : ℕ). get_or waiters n mover) place ∙ place_at (is_of txn) f.0 mover waiters f.1 in
    let left : new_waiters ≡ without txn waiters = removed ∙ ap (λ (n : ℕ). remove waiters n) place
    ∙ remove_only (is_of txn) f.0 waiters f.1 (one_of_txn txn holders waiters h) in
    let more : new_holders ≡ holders ++ f.0 ∷ [] = pushed ∙ ap (λ (x : Claim). holders ++ x ∷ []) taken in
    let locks : record { holders = new_holders; waiters = new_waiters } ≡ record { holders = holders ++ f.0 ∷ []; waiters = without txn waiters } =
    ap (λ (xs : List Claim). record { holders = xs; waiters = new_waiters }) more
    ∙ ap (λ (xs : List Claim). record { holders = holders ++ f.0 ∷ []; waiters = xs }) left in
    record {
      sound = subst (λ (l : Locks). Sound l) (sym locks) (got_moves txn f.0 holders waiters h f.1 got);
      polled = locks ∙ sym (polled_got txn f.0 (record { holders = holders; waiters = waiters }) got f.1);
    }
