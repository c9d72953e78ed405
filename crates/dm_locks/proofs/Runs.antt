-- Every run of calls leaves a sound table.
use Rattle.std.proofs.Common.{◌≤◌, ◌≡◌, Bool, true, false, not, List, [], ◌∷◌, ◌++◌, length, Option, Some, None, refl, subst, arith}
use Rattle.std.proofs.lemmas.List.{length-append}
use Rattle.std.specs.Prelude.{if◌then◌else◌, option_map, unwrap_or}
use Rattle.dm_event.specs.declared.limits.TheConstants.{MAX_SESSIONS}
use Rattle.dm_event.specs.declared.step.TxnId.{TxnId}
use Rattle.dm_locks.proofs.Answers.{got_from}
use Rattle.dm_locks.proofs.Sound.{few_claims, fewer_hold, fewer_wait, got_holds, got_moves, waits_more}
use Rattle.dm_locks.proofs.Line.{in_line_sound}
use Rattle.dm_locks.specs.Calls.{Call, Ask, Poll, GiveBack, Withdraw, LeaveLine, Take, Clear, IsRun, MayCall, Reached, after, after_all}
use Rattle.dm_locks.specs.Claims.{answer, claim_of, is_of, is_of_session, without}
use Rattle.dm_locks.specs.Locks.{Locks, answer_at_poll, asked, everyone, granted, in_line, is_got, no_locks, polled}
use Rattle.dm_locks.specs.Sound.{Sound}
use Rattle.dm_locks.specs.declared.claim.Claim.{Claim}

pub nothing_sound : Sound no_locks
nothing_sound = record { in_range = tt; one_claim = λ session. omega arith; one_holder = λ key. omega arith }

asked_sound : (locks : Locks) (claim : Claim) → Sound locks → MayCall locks (Ask claim) → Sound (asked locks claim)
asked_sound locks claim h may = by_answer (is_got (answer claim.keys (everyone locks))) refl
  where
    by_answer : (b : Bool) → is_got (answer claim.keys (everyone locks)) ≡ b
        → Sound (if b then record locks { holders = locks.holders ++ claim ∷ [] } else record locks { waiters = locks.waiters ++ claim ∷ [] })
    by_answer true e = got_holds claim locks.holders locks.waiters h may.session may.no_claim (got_from (answer claim.keys (everyone locks)) e)
    by_answer false e = waits_more claim locks.holders locks.waiters h may.session may.no_claim

polled_sound : (locks : Locks) (txn : TxnId) → Sound locks → Sound (polled locks txn)
polled_sound locks txn h = by_answer (is_got (answer_at_poll locks txn)) refl
  where
    by_claim : (o : Option Claim) → claim_of txn locks.waiters ≡ o → is_got (answer_at_poll locks txn) ≡ true
        → Sound (unwrap_or (option_map (granted locks txn) o) locks)
    by_claim None q e = h
    by_claim (Some claim) q e = got_moves txn claim locks.holders locks.waiters h q (got_from (answer_at_poll locks txn) e)

    by_answer : (b : Bool) → is_got (answer_at_poll locks txn) ≡ b → Sound (if b
        then unwrap_or (option_map (granted locks txn) (claim_of txn locks.waiters)) locks else locks)
    by_answer true e = by_claim (claim_of txn locks.waiters) refl e
    by_answer false e = h

gives_back : (txn : TxnId) (holders waiters : List Claim) → Sound (record { holders = holders; waiters = waiters })
    → Sound (record { holders = without txn holders; waiters = without txn waiters })
gives_back txn holders waiters h =
    fewer_hold (λ c. not (is_of txn c)) holders (without txn waiters) (fewer_wait (λ c. not (is_of txn c)) holders waiters h)

after_sound : (locks : Locks) (call : Call) → Sound locks → MayCall locks call → Sound (after locks call)
after_sound locks (Ask claim) h may = asked_sound locks claim h may
after_sound locks (Poll txn) h may = polled_sound locks txn h
after_sound locks (GiveBack txn) h may = gives_back txn locks.holders locks.waiters h
after_sound locks (Withdraw txn) h may = fewer_wait (λ c. not (is_of txn c)) locks.holders locks.waiters h
after_sound locks (LeaveLine session) h may = fewer_wait (λ c. not (is_of_session session c)) locks.holders locks.waiters h
after_sound locks (Take claim) h may = polled_sound (in_line locks claim) claim.txn (in_line_sound locks claim h may.session may.free)
after_sound locks Clear h may = nothing_sound

run_sound : (locks : Locks) (calls : List Call) → Sound locks → IsRun locks calls → Sound (after_all locks calls)
run_sound locks [] h r = h
run_sound locks (call ∷ calls) h r = run_sound (after locks call) calls (after_sound locks call h r.0) r.1

pub reached_sound : (locks : Locks) → Reached locks → Sound locks
reached_sound locks r = subst (λ (l : Locks). Sound l) r.leaves (run_sound no_locks r.calls nothing_sound r.run)

pub reached_few : (locks : Locks) → Reached locks → length (everyone locks) ≤ MAX_SESSIONS
reached_few locks r =
    let l = few_claims locks (reached_sound locks r) in
    let e = length-append locks.holders locks.waiters in
    omega arith
