-- As long as a claim waits, no claim that shares a key with it gets in front of it.
use Rattle.std.proofs.Common.{ℕ, ◌≡◌, Bool, true, false, ◌==◌, not, List, [], ◌∷◌, ◌++◌, Option, Some, None, refl, sym, ap, ◌∙◌, subst, inl, inr}
use Rattle.std.proofs.lemmas.Bool.{false≢true, cases_Bool}
use Rattle.std.specs.List.{AllByRecursion as Each}
use Rattle.std.specs.Prelude.{if◌then◌else◌, is_some, option_map, unwrap_or}
use Rattle.dm_event.specs.Txns.{same_txn}
use Rattle.dm_event.specs.declared.step.TxnId.{TxnId}
use Rattle.dm_locks.proofs.Answers.{got_from, got_shares_none}
use Rattle.dm_locks.proofs.Counts.{each_both, each_filter}
use Rattle.dm_locks.proofs.Members.{In, before_asked, before_left, claim_left, each_at, found_in, found_last, gone, in_right, one_in_front, passes}
use Rattle.dm_locks.specs.Calls.{Call, Ask, Poll, GiveBack, Withdraw, LeaveLine, Take, Clear, IsWaiting, Share, WaitsOn, after, after_all}
use Rattle.dm_locks.specs.Claims.{answer, before, claim_of, is_of, of_others, without}
use Rattle.dm_locks.specs.Locks.{Locks, ahead, answer_at_poll, asked, everyone, granted, in_line, is_got, keys_of, polled}
use Rattle.dm_locks.specs.declared.claim.Claim.{Claim}
use Rattle.dm_locks.specs.declared.table.LockAnswer.TheVariants.{Got}
use Rattle.dm_model.proofs.SameValues.{txn_same, txn_own}
use Rattle.dm_model.proofs.KeysAndBodies.{no_common}
use Rattle.dm_model.proofs.ListFacts.{found_holds}
use Rattle.dm_model.specs.Allowed.{common_key}

-- Q of the holders that share a key with the claim, and R of those that wait in front of it
pub record Kept (Q R : Claim → Type 0) (claim : Claim) (locks : Locks) : Type 0 where
  pub holders : Each (λ other. Share claim other → Q other) locks.holders
  pub front : Each R (before claim.txn locks.waiters)

-- who is answered Got shares no key with one that it is answered for
shares_none : (asker claim : Claim) (claims : List Claim) → answer asker.keys claims ≡ Got → In claim claims → Share claim asker → ⊥
shares_none asker claim claims got there share =
    no_common asker.keys claim.keys (each_at (λ other. common_key asker.keys other.keys ≡ None) claim claims there (got_shares_none asker.keys claims got))
    share.0 share.2 share.1

asked_kept : (Q R : Claim → Type 0) (claim asker : Claim) (locks : Locks) → IsWaiting locks claim → Kept Q R claim locks → Kept Q R claim (asked locks asker)
asked_kept Q R claim asker locks waits h = by_answer (is_got (answer asker.keys (everyone locks))) refl
  where
    by_answer : (b : Bool) → is_got (answer asker.keys (everyone locks)) ≡ b
        → Kept Q R claim (if b then record locks { holders = locks.holders ++ asker ∷ [] } else record locks { waiters = locks.waiters ++ asker ∷ [] })
    by_answer true e = record {
      holders = each_both (λ other. Share claim other → Q other) locks.holders (asker ∷ []) h.holders (
        (λ share. absurd (shares_none asker claim (everyone locks) (got_from (answer asker.keys (everyone locks)) e)
            (in_right claim locks.holders locks.waiters (found_in (is_of claim.txn) claim locks.waiters waits)) share)),
        tt,
      );
      front = h.front;
    }
    by_answer false e = record {
      holders = h.holders;
      front = subst (λ (cs : List Claim). Each R cs) (sym (before_asked claim.txn claim locks.waiters (asker ∷ []) waits)) h.front;
    }

-- a transaction that goes is another one
still : (txn : TxnId) (claim : Claim) (claims : List Claim) → claim_of claim.txn (without txn claims) ≡ Some claim → same_txn claim.txn txn ≡ false
still txn claim claims waits = by_test (same_txn claim.txn txn) (passes (λ u. not (same_txn u txn)) claim claims waits)
  where
    by_test : (b : Bool) → not b ≡ true → b ≡ false
    by_test true e = absurd (false≢true e)
    by_test false e = refl

polled_kept : (Q R : Claim → Type 0) (claim : Claim) (txn : TxnId) (locks : Locks) → ((other : Claim) → R other → Share claim other → Q other)
    → IsWaiting locks claim → IsWaiting (polled locks txn) claim → Kept Q R claim locks → Kept Q R claim (polled locks txn)
polled_kept Q R claim txn locks rq waits later h = by_answer (is_got (answer_at_poll locks txn)) refl later
  where
    differs : (mover : Claim) → claim_of txn locks.waiters ≡ Some mover → same_txn claim.txn txn ≡ false → is_of claim.txn mover ≡ false
    differs mover found other = elim (cases_Bool (is_of claim.txn mover)) [
      | inl same ↦
          let a : mover.txn ≡ claim.txn = txn_same mover.txn claim.txn same in
          let b : mover.txn ≡ txn = txn_same mover.txn txn (found_holds (is_of txn) locks.waiters mover found) in
          absurd (false≢true (sym other ∙ ap (λ (t : TxnId). same_txn claim.txn t) (sym b ∙ a) ∙ txn_own claim.txn))
      | inr n ↦ n
    ]

    passed : (mover : Claim) → claim_of txn locks.waiters ≡ Some mover → answer mover.keys (ahead txn locks) ≡ Got → same_txn claim.txn txn ≡ false
        → Share claim mover → Q mover
    passed mover found answered other share = elim (one_in_front claim.txn txn claim mover locks.waiters waits found (differs mover found other)) [
      | inl m ↦ rq mover (each_at R mover (before claim.txn locks.waiters) m h.front) share
      | inr m ↦ absurd (shares_none mover claim (ahead txn locks) answered (in_right claim locks.holders (before txn locks.waiters) m) share)
    ]

    moved : (mover : Claim) → claim_of txn locks.waiters ≡ Some mover → answer_at_poll locks txn ≡ Got → IsWaiting (granted locks txn mover) claim
        → Kept Q R claim (granted locks txn mover)
    moved mover found got later =
        let other : same_txn claim.txn txn ≡ false = still txn claim locks.waiters later in
        let keys : keys_of txn locks.waiters ≡ mover.keys = ap (λ (o : Option Claim). unwrap_or (option_map (λ c. c.keys) o) []) found in
        let answered : answer mover.keys (ahead txn locks) ≡ Got = ap (λ (ks : List ℕ). answer ks (ahead txn locks)) (sym keys) ∙ got in
        record {
          holders = each_both (λ other. Share claim other → Q other) locks.holders (mover ∷ []) h.holders
              (passed mover found answered other, tt);
          front = before_left R (λ u. not (same_txn u txn)) claim.txn (ap (λ (b : Bool). not b) other) locks.waiters h.front;
        }

    by_claim : (o : Option Claim) → claim_of txn locks.waiters ≡ o → answer_at_poll locks txn ≡ Got
        → IsWaiting (unwrap_or (option_map (granted locks txn) o) locks) claim → Kept Q R claim (unwrap_or (option_map (granted locks txn) o) locks)
    by_claim None found got later = h
    by_claim (Some mover) found got later = moved mover found got later

    by_answer : (b : Bool) → is_got (answer_at_poll locks txn) ≡ b → IsWaiting (if b
        then unwrap_or (option_map (granted locks txn) (claim_of txn locks.waiters)) locks else locks) claim
        → Kept Q R claim (if b then unwrap_or (option_map (granted locks txn) (claim_of txn locks.waiters)) locks else locks)
    by_answer true e later = by_claim (claim_of txn locks.waiters) refl (got_from (answer_at_poll locks txn) e) later
    by_answer false e later = h

-- who waits after a poll waited before it
polled_waits : (locks : Locks) (txn : TxnId) (claim : Claim) → IsWaiting (polled locks txn) claim → IsWaiting locks claim
polled_waits locks txn claim later = by_answer (is_got (answer_at_poll locks txn)) later
  where
    by_claim : (o : Option Claim) → IsWaiting (unwrap_or (option_map (granted locks txn) o) locks) claim → IsWaiting locks claim
    by_claim None later = later
    by_claim (Some mover) later =
        let others : TxnId → Bool = λ u. not (same_txn u txn) in
        sym (claim_left others claim.txn (passes others claim locks.waiters later) locks.waiters) ∙ later

    by_answer : (b : Bool) → IsWaiting (if b then unwrap_or (option_map (granted locks txn) (claim_of txn locks.waiters)) locks else locks) claim
        → IsWaiting locks claim
    by_answer true later = by_claim (claim_of txn locks.waiters) later
    by_answer false later = later

abbrev other_session : ℕ → TxnId → Bool
other_session session u = not (u.session == session)

in_line_kept : (Q R : Claim → Type 0) (claim taker : Claim) (locks : Locks) → IsWaiting locks claim → IsWaiting (in_line locks taker) claim → Kept Q R claim locks
    → Kept Q R claim (in_line locks taker)
in_line_kept Q R claim taker locks waits later h = by_wait (is_some (claim_of taker.txn locks.waiters)) refl later
  where
    stays : is_some (claim_of taker.txn locks.waiters) ≡ false → claim_of claim.txn (of_others taker.txn.session locks.waiters ++ taker ∷ []) ≡ Some claim
        → other_session taker.txn.session claim.txn ≡ true
    stays new later = elim (cases_Bool (other_session taker.txn.session claim.txn)) [
      | inl t ↦ t
      | inr n ↦
          let nothing : claim_of claim.txn (of_others taker.txn.session locks.waiters) ≡ None = gone (other_session taker.txn.session) claim.txn n locks.waiters in
          let same = txn_same taker.txn claim.txn (found_last claim.txn taker claim (of_others taker.txn.session locks.waiters) nothing later) in
          absurd (false≢true (sym new ∙ ap (λ (t : TxnId). is_some (claim_of t locks.waiters)) same ∙ ap (λ (o : Option Claim). is_some o) waits))
    ]

    by_wait : (b : Bool) → is_some (claim_of taker.txn locks.waiters) ≡ b
        → IsWaiting (if b then locks else record locks { waiters = of_others taker.txn.session locks.waiters ++ taker ∷ [] }) claim
        → Kept Q R claim (if b then locks else record locks { waiters = of_others taker.txn.session locks.waiters ++ taker ∷ [] })
    by_wait true new later = h
    by_wait false new later =
        let t = stays new later in
        let there : claim_of claim.txn (of_others taker.txn.session locks.waiters) ≡ Some claim = claim_left (other_session taker.txn.session) claim.txn t locks.waiters ∙ waits in
        record {
          holders = h.holders;
          front = subst (λ (cs : List Claim). Each R cs)
              (sym (before_asked claim.txn claim (of_others taker.txn.session locks.waiters) (taker ∷ []) there))
              (before_left R (other_session taker.txn.session) claim.txn t locks.waiters h.front);
        }

after_kept : (Q R : Claim → Type 0) (claim : Claim) (locks : Locks) (call : Call) → ((other : Claim) → R other → Share claim other → Q other)
    → IsWaiting locks claim → IsWaiting (after locks call) claim → Kept Q R claim locks → Kept Q R claim (after locks call)
after_kept Q R claim locks (Ask asker) rq waits later h = asked_kept Q R claim asker locks waits h
after_kept Q R claim locks (Poll txn) rq waits later h = polled_kept Q R claim txn locks rq waits later h
after_kept Q R claim locks (GiveBack txn) rq waits later h = record {
  holders = each_filter (λ other. Share claim other → Q other) (λ other. not (is_of txn other)) locks.holders h.holders;
  front = before_left R (λ u. not (same_txn u txn)) claim.txn (passes (λ u. not (same_txn u txn)) claim locks.waiters later) locks.waiters h.front;
}
after_kept Q R claim locks (Withdraw txn) rq waits later h = record {
  holders = h.holders;
  front = before_left R (λ u. not (same_txn u txn)) claim.txn (passes (λ u. not (same_txn u txn)) claim locks.waiters later) locks.waiters h.front;
}
after_kept Q R claim locks (LeaveLine session) rq waits later h = record {
  holders = h.holders;
  front = before_left R (other_session session) claim.txn (passes (other_session session) claim locks.waiters later) locks.waiters h.front;
}
after_kept Q R claim locks (Take taker) rq waits later h =
    let stood = polled_waits (in_line locks taker) taker.txn claim later in
    polled_kept Q R claim taker.txn (in_line locks taker) rq stood later (in_line_kept Q R claim taker locks waits stood h)
after_kept Q R claim locks Clear rq waits later h = absurd (cc (later))

waits_now : (locks : Locks) (calls : List Call) (claim : Claim) → WaitsOn locks calls claim → IsWaiting locks claim
waits_now locks [] claim w = w
waits_now locks (call ∷ calls) claim w = w.0

pub run_kept : (Q R : Claim → Type 0) (claim : Claim) → ((other : Claim) → R other → Share claim other → Q other) → (locks : Locks) (calls : List Call)
    → WaitsOn locks calls claim → Kept Q R claim locks → Kept Q R claim (after_all locks calls)
run_kept Q R claim rq locks [] w h = h
run_kept Q R claim rq locks (call ∷ calls) w h =
    run_kept Q R claim rq (after locks call) calls w.1 (after_kept Q R claim locks call rq w.0 (waits_now (after locks call) calls claim w.1) h)
