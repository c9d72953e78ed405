-- What an attempt that asks, or asks again, makes of the table.
use Rattle.std.proofs.Common.{ℕ, suc, ◌≤◌, ◌≡◌, Bool, true, false, ◌==◌, ◌&&◌, not, cond, List, [], ◌∷◌, ◌++◌, Option, Some, None, refl, sym, ap, ◌∙◌, subst, arith, inl, inr, ◌⊎◌}
use Rattle.std.proofs.lemmas.Bool.{false≢true, eq-eqb}
use Rattle.std.specs.List.{AllByRecursion as Each, Contains, filter}
use Rattle.std.specs.List.Sorted.{IsStrictlyIncreasing}
use Rattle.std.specs.Prelude.{IfSome, if◌then◌else◌, is_some, option_map, unwrap_or}
use Rattle.dm_event.specs.declared.step.TxnId.{TxnId}
use Rattle.dm_locks.proofs.Answers.{got_shares_none}
use Rattle.dm_locks.proofs.Counts.{count-append, count_none, each_both, each_filter, each_parts, none_counted}
use Rattle.dm_locks.proofs.Firsts.{answers_first}
use Rattle.dm_locks.proofs.Members.{In, each_at, each_from, found_in, in_contains, in_counted, in_from}
use Rattle.dm_locks.proofs.Places.{polled_got}
use Rattle.dm_locks.proofs.Sound.{fewer_wait, waits_more}
use Rattle.dm_locks.specs.Calls.{MayTake}
use Rattle.dm_locks.specs.Claims.{answer, before, claim_of, is_of, is_of_session, of_others, without}
use Rattle.dm_locks.specs.Line.{IsFree, Taken}
use Rattle.dm_locks.specs.Locks.{Locks, ahead, answer_at_poll, asked, everyone, granted, in_line, is_got, left_line, polled, taken}
use Rattle.dm_locks.specs.Sound.{InRange, Sound}
use Rattle.dm_locks.specs.declared.claim.Claim.{Claim}
use Rattle.dm_locks.specs.declared.table.LockAnswer.{LockAnswer}
use Rattle.dm_locks.specs.declared.table.LockAnswer.TheVariants.{Got, Waits}
use Rattle.dm_model.proofs.ListFacts.{each_map, found_each, found_holds}
use Rattle.dm_model.proofs.SameValues.{txn_own, txn_same}
use Rattle.dm_model.specs.Allowed.{common_key}
use Rattle.dm_model.specs.Words.{count_of}

-- ---- one claim a session

pub others_apart : (session : ℕ) (claims : List Claim) → Each (λ c. is_of_session session c ≡ false) (of_others session claims)
others_apart session [] = tt
others_apart session (c ∷ cs) = by_test (of_others session cs) (is_of_session session c) refl (others_apart session cs)
  where
    by_test : (others : List Claim) (b : Bool) → is_of_session session c ≡ b → Each (λ x. is_of_session session x ≡ false) others
        → Each (λ x. is_of_session session x ≡ false) (cond (not b) (c ∷ others) others)
    by_test others true e rest = rest
    by_test others false e rest = (e, rest)

-- another session's claim is another transaction's
not_its : (txn : TxnId) (claims : List Claim) → Each (λ c. is_of_session txn.session c ≡ false) claims → Each (λ c. is_of txn c ≡ false) claims
not_its txn claims h =
    each_map (λ (c : Claim). is_of_session txn.session c ≡ false) (λ (c : Claim). is_of txn c ≡ false)
    (λ c n. ap (λ (b : Bool). b && ((c.txn.number == txn.number) && (c.txn.attempt == txn.attempt))) n) claims h

-- where one passes at most, it is this one
pub only_one : (p : Claim → Bool) (x : Claim) (xs : List Claim) → count_of p xs ≤ 1 → In x xs → p x ≡ true → Each (λ y. p y ≡ true → y ≡ x) xs
only_one p x [] few m t = tt
only_one p x (y ∷ ys) few (inl e) t =
    let none : count_of p ys ≡ 0 = by_test (p y) (ap p e ∙ t) few in
    ((λ q. e), each_map (λ (z : Claim). p z ≡ false) (λ (z : Claim). p z ≡ true → z ≡ x) (λ z n q. absurd (false≢true (sym n ∙ q))) ys (none_counted p ys none))
  where
    by_test : (b : Bool) → b ≡ true → cond b (suc (count_of p ys)) (count_of p ys) ≤ 1 → count_of p ys ≡ 0
    by_test true r l = omega arith
    by_test false r l = absurd (false≢true r)
only_one p x (y ∷ ys) few (inr m) t = by_test (p y) refl few (in_counted p x ys m t) (λ l. only_one p x ys l m t)
  where
    by_test : (b : Bool) → p y ≡ b → cond b (suc (count_of p ys)) (count_of p ys) ≤ 1 → 1 ≤ count_of p ys
        → (count_of p ys ≤ 1 → Each (λ z. p z ≡ true → z ≡ x) ys) → (p y ≡ true → y ≡ x) × Each (λ z. p z ≡ true → z ≡ x) ys
    by_test true e l n rest = absurd (omega arith)
    by_test false e l n rest = ((λ q. absurd (false≢true (sym e ∙ q))), rest l)

same_filter : (p q : Claim → Bool) (xs : List Claim) → Each (λ x. p x ≡ q x) xs → filter (λ x. not (p x)) xs ≡ filter (λ x. not (q x)) xs
same_filter p q [] h = refl
same_filter p q (x ∷ xs) h =
    ap (λ (b : Bool). cond (not b) (x ∷ filter (λ y. not (p y)) xs) (filter (λ y. not (p y)) xs)) h.0
    ∙ ap (λ (zs : List Claim). cond (not (q x)) (x ∷ zs) zs) (same_filter p q xs h.1)

-- a session's only claim is the transaction's
without_only : (txn : TxnId) (claim : Claim) (claims : List Claim) → claim_of txn claims ≡ Some claim → count_of (is_of_session txn.session) claims ≤ 1
    → without txn claims ≡ of_others txn.session claims
without_only txn claim claims found few =
    same_filter (is_of txn) (is_of_session txn.session) claims (each_map (λ (c : Claim). is_of_session txn.session c ≡ true → c ≡ claim)
    (λ (c : Claim). is_of txn c ≡ is_of_session txn.session c) (λ c only. agree c (is_of_session txn.session c) refl only) claims
    (only_one (is_of_session txn.session) claim claims few (found_in (is_of txn) claim claims found) its))
  where
    its : is_of_session txn.session claim ≡ true
    its = eq-eqb claim.txn.session txn.session (ap (λ (t : TxnId). t.session) (txn_same claim.txn txn (found_holds (is_of txn) claims claim found)))

    agree : (c : Claim) (b : Bool) → is_of_session txn.session c ≡ b → (b ≡ true → c ≡ claim) → is_of txn c ≡ b
    agree c true e only = ap (λ (z : Claim). is_of txn z) (only refl) ∙ found_holds (is_of txn) claims claim found
    agree c false e only = ap (λ (b : Bool). b && ((c.txn.number == txn.number) && (c.txn.attempt == txn.attempt))) e

-- ---- the last in line

its_own : (claim : Claim) → is_of claim.txn claim ≡ true
its_own claim = txn_own claim.txn

found_end : (claim : Claim) (claims : List Claim) → Each (λ c. is_of claim.txn c ≡ false) claims → claim_of claim.txn (claims ++ claim ∷ []) ≡ Some claim
found_end claim [] h = ap (λ (b : Bool). cond b (Some claim) None) (its_own claim)
found_end claim (c ∷ cs) h =
    ap (λ (b : Bool). cond b (Some c) (claim_of claim.txn (cs ++ claim ∷ []))) h.0 ∙ found_end claim cs h.1

before_end : (claim : Claim) (claims : List Claim) → Each (λ c. is_of claim.txn c ≡ false) claims → before claim.txn (claims ++ claim ∷ []) ≡ claims
before_end claim [] h = ap (λ (b : Bool). cond b [] (claim ∷ [])) (its_own claim)
before_end claim (c ∷ cs) h =
    ap (λ (b : Bool). cond b [] (c ∷ before claim.txn (cs ++ claim ∷ []))) h.0 ∙ ap (λ (xs : List Claim). c ∷ xs) (before_end claim cs h.1)

without_end : (claim : Claim) (claims : List Claim) → Each (λ c. is_of claim.txn c ≡ false) claims → without claim.txn (claims ++ claim ∷ []) ≡ claims
without_end claim [] h = ap (λ (b : Bool). cond (not b) (claim ∷ []) []) (its_own claim)
without_end claim (c ∷ cs) h =
    ap (λ (b : Bool). cond (not b) (c ∷ without claim.txn (cs ++ claim ∷ [])) (without claim.txn (cs ++ claim ∷ []))) h.0
    ∙ ap (λ (xs : List Claim). c ∷ xs) (without_end claim cs h.1)

-- ---- in line

pub in_line_sound : (locks : Locks) (claim : Claim) → Sound locks → InRange claim → count_of (is_of_session claim.txn.session) locks.holders ≡ 0
    → Sound (in_line locks claim)
in_line_sound locks claim h range free = by_wait (is_some (claim_of claim.txn locks.waiters))
  where
    by_wait : (b : Bool) → Sound (if b then locks else record locks { waiters = of_others claim.txn.session locks.waiters ++ claim ∷ [] })
    by_wait true = h
    by_wait false =
        let p = is_of_session claim.txn.session in
        let others = of_others claim.txn.session locks.waiters in
        let a = count-append p locks.holders others in
        let b = count_none p others (others_apart claim.txn.session locks.waiters) in
        let nobody : count_of p (locks.holders ++ others) ≡ 0 = omega arith in
        waits_more claim locks.holders others (fewer_wait (λ c. not (p c)) locks.holders locks.waiters h) range nobody

-- the claim waits in this table, and beside it the other sessions as before
record Stands (claim : Claim) (old line : Locks) : Type 0 where
  pub holders : line.holders ≡ old.holders
  pub found : claim_of claim.txn line.waiters ≡ Some claim
  pub left : without claim.txn line.waiters ≡ of_others claim.txn.session old.waiters

stands : (claim : Claim) (locks : Locks) → Sound locks → IfSome (claim_of claim.txn locks.waiters) (λ waiting. waiting.keys ≡ claim.keys)
    → Stands claim locks (in_line locks claim)
stands claim locks h keys = by_claim (claim_of claim.txn locks.waiters) refl keys
  where
    few : count_of (is_of_session claim.txn.session) locks.waiters ≤ 1
    few =
        let n = h.one_claim claim.txn.session in
        let p = count-append (is_of_session claim.txn.session) locks.holders locks.waiters in
        omega arith

    by_claim : (o : Option Claim) → claim_of claim.txn locks.waiters ≡ o → IfSome o (λ waiting. waiting.keys ≡ claim.keys)
        → Stands claim locks (if is_some o then locks else record locks { waiters = of_others claim.txn.session locks.waiters ++ claim ∷ [] })
    by_claim None e k =
        let apart = not_its claim.txn (of_others claim.txn.session locks.waiters) (others_apart claim.txn.session locks.waiters) in
        record {
          holders = refl;
          found = found_end claim (of_others claim.txn.session locks.waiters) apart;
          left = without_end claim (of_others claim.txn.session locks.waiters) apart;
        }
    by_claim (Some waiting) e k =
        let same : waiting.txn ≡ claim.txn = txn_same waiting.txn claim.txn (found_holds (is_of claim.txn) locks.waiters waiting e) in
        record {
          holders = refl;
          found = e ∙ (λ j. Some (record { txn = same j; keys = k j }));
          left = without_only claim.txn waiting locks.waiters e few;
        }

-- a waiter is answered for its keys
at_poll : (claim : Claim) (line : Locks) → claim_of claim.txn line.waiters ≡ Some claim
    → answer_at_poll line claim.txn ≡ answer claim.keys (ahead claim.txn line)
at_poll claim line found = ap (λ (o : Option Claim). answer (unwrap_or (option_map (λ c. c.keys) o) []) (ahead claim.txn line)) found

still_waits : (txn by : TxnId) (key : ℕ) (line : Locks) → answer_at_poll line txn ≡ Waits by key → polled line txn ≡ line
still_waits txn by key line e =
    ap (λ (a : LockAnswer). if is_got a then unwrap_or (option_map (granted line txn) (claim_of txn line.waiters)) line else line) e

-- ---- what the answer says

pub tells : (locks : Locks) (claim : Claim) → IsStrictlyIncreasing claim.keys → Sound locks → MayTake locks claim
    → Taken claim locks (taken locks claim) (answer claim.keys (ahead claim.txn (in_line locks claim)))
tells locks claim up h may = by_answer (answer claim.keys (ahead claim.txn (in_line locks claim))) refl
  where
    s : Stands claim locks (in_line locks claim)
    s = stands claim locks h may.keys

    few : count_of (is_of_session claim.txn.session) (in_line locks claim).waiters ≤ 1
    few =
        let n = (in_line_sound locks claim h may.session may.free).one_claim claim.txn.session in
        let p = count-append (is_of_session claim.txn.session) (in_line locks claim).holders (in_line locks claim).waiters in
        omega arith

    there : In claim (in_line locks claim).waiters
    there = found_in (is_of claim.txn) claim (in_line locks claim).waiters s.found

    by_answer : (a : LockAnswer) → answer claim.keys (ahead claim.txn (in_line locks claim)) ≡ a → Taken claim locks (taken locks claim) a
    by_answer Got e =
        let q = polled_got claim.txn claim (in_line locks claim) (at_poll claim (in_line locks claim) s.found ∙ e) s.found in
        record {
          free = got_shares_none claim.keys (ahead claim.txn (in_line locks claim)) e;
          holders = ap (λ (l : Locks). l.holders) q ∙ ap (λ (hs : List Claim). hs ++ claim ∷ []) s.holders;
          waiters = ap (λ (l : Locks). l.waiters) q ∙ s.left;
        }
    by_answer (Waits by key) e =
        let q = still_waits claim.txn by key (in_line locks claim) (at_poll claim (in_line locks claim) s.found ∙ e) in
        subst (λ (l : Locks). Taken claim locks l (Waits by key)) (sym q) (record {
          locks = refl;
          there = in_contains claim (in_line locks claim).waiters there;
          alone = only_one (is_of_session claim.txn.session) claim (in_line locks claim).waiters few there (eq-eqb claim.txn.session claim.txn.session refl);
          obstacle = answers_first claim.keys (ahead claim.txn (in_line locks claim)) by key up e;
        })

-- ---- the two ways to take

pub record Took (claim : Claim) (old new : Locks) (result : LockAnswer) : Type 0 where
  pub answer : result ≡ answer claim.keys (ahead claim.txn (in_line old claim))
  pub locks : new ≡ taken old claim
  pub tells : Taken claim old new result

took : (claim : Claim) (old new : Locks) (result : LockAnswer) → IsStrictlyIncreasing claim.keys → Sound old → MayTake old claim
    → result ≡ answer claim.keys (ahead claim.txn (in_line old claim)) → new ≡ taken old claim → Took claim old new result
took claim old new result up h may a e = record {
  answer = a;
  locks = e;
  tells = subst (λ (r : LockAnswer). Taken claim old new r) (sym a) (subst (λ (l : Locks). Taken claim old l (answer claim.keys (ahead claim.txn (in_line old claim))))
      (sym e) (tells old claim up h may));
}

-- it waits already
pub polls : (claim : Claim) (old new : Locks) (result : LockAnswer) → IsStrictlyIncreasing claim.keys → Sound old → MayTake old claim
    → is_some (claim_of claim.txn old.waiters) ≡ true
    → result ≡ answer_at_poll old claim.txn → new ≡ polled old claim.txn → Took claim old new result
polls claim old new result up h may waits a e =
    let same : in_line old claim ≡ old = ap (λ (b : Bool). if b then old
    else record old { waiters = of_others claim.txn.session old.waiters ++ claim ∷ [] }) waits in
    took claim old new result up h may
    (a ∙ ap (λ (l : Locks). answer_at_poll l claim.txn) (sym same) ∙ at_poll claim (in_line old claim) (stands claim old h may.keys).found)
    (e ∙ ap (λ (l : Locks). polled l claim.txn) (sym same))

-- to ask where nobody else of the session waits is to stand last in line, and to poll
asks_last : (claim : Claim) (holders others : List Claim) → Each (λ c. is_of claim.txn c ≡ false) others
    → asked (record { holders = holders; waiters = others }) claim ≡ polled (record { holders = holders; waiters = others ++ claim ∷ [] }) claim.txn
asks_last claim holders others apart = by_answer (answer claim.keys (holders ++ others)) refl
  where
    left : Locks
    left = record { holders = holders; waiters = others }

    line : Locks
    line = record { holders = holders; waiters = others ++ claim ∷ [] }

    told : answer_at_poll line claim.txn ≡ answer claim.keys (holders ++ others)
    told = at_poll claim line (found_end claim others apart) ∙ ap (λ (cs : List Claim). answer claim.keys (holders ++ cs)) (before_end claim others apart)

    asking : LockAnswer → Locks
    asking a = if is_got a then record { holders = holders ++ claim ∷ []; waiters = others } else line

    by_answer : (a : LockAnswer) → answer claim.keys (holders ++ others) ≡ a → asked left claim ≡ polled line claim.txn
    by_answer Got e =
        ap asking e
        ∙ ap (λ (ws : List Claim). record { holders = holders ++ claim ∷ []; waiters = ws }) (sym (without_end claim others apart))
        ∙ sym (polled_got claim.txn claim line (told ∙ e) (found_end claim others apart))
    by_answer (Waits by key) e = ap asking e ∙ sym (still_waits claim.txn by key line (told ∙ e))

-- it doesn't wait yet
pub asks : (claim : Claim) (old left new : Locks) (result : LockAnswer) → IsStrictlyIncreasing claim.keys → Sound old → MayTake old claim
    → is_some (claim_of claim.txn old.waiters) ≡ false
    → left ≡ left_line old claim.txn.session → result ≡ answer claim.keys (everyone left) → new ≡ asked left claim → Took claim old new result
asks claim old left new result up h may waits l a e =
    let others = of_others claim.txn.session old.waiters in
    let apart = not_its claim.txn others (others_apart claim.txn.session old.waiters) in
    let line : Locks = record { holders = old.holders; waiters = others ++ claim ∷ [] } in
    let last : in_line old claim ≡ line = ap (λ (b : Bool). if b then old else line) waits in
    took claim old new result up h may
    (a ∙ ap (λ (x : Locks). answer claim.keys (everyone x)) l
    ∙ ap (λ (cs : List Claim). answer claim.keys (old.holders ++ cs)) (sym (before_end claim others apart))
    ∙ ap (λ (x : Locks). answer claim.keys (ahead claim.txn x)) (sym last))
    (e ∙ ap (λ (x : Locks). asked x claim) l ∙ asks_last claim old.holders others apart ∙ ap (λ (x : Locks). polled x claim.txn) (sym last))

-- who left the line, and holds nothing, may ask
pub left_all : (old left : Locks) (session : ℕ) → left ≡ left_line old session → count_of (is_of_session session) old.holders ≡ 0
    → count_of (is_of_session session) (everyone left) ≡ 0
left_all old left session l free =
    let others = of_others session old.waiters in
    let a = count-append (is_of_session session) old.holders others in
    let b = count_none (is_of_session session) others (others_apart session old.waiters) in
    let nobody : count_of (is_of_session session) (old.holders ++ others) ≡ 0 = omega arith in
    ap (λ (x : Locks). count_of (is_of_session session) (everyone x)) l ∙ nobody

-- ---- for a site

-- what holds of the waiters, and of the claim, holds of the waiters after it
pub waiters_keep : (P : Claim → Type 0) (claim : Claim) (old new : Locks) (result : LockAnswer) → Taken claim old new result → Each P old.waiters → P claim
    → Each P new.waiters
waiters_keep P claim old new Got t h k =
    subst (λ (cs : List Claim). Each P cs) (sym t.waiters) (each_filter P (λ c. not (is_of_session claim.txn.session c)) old.waiters h)
waiters_keep P claim old new (Waits by key) t h k =
    subst (λ (l : Locks). Each P l.waiters) (sym t.locks) (by_wait (is_some (claim_of claim.txn old.waiters)))
  where
    by_wait : (b : Bool) → Each P (if b then old else record old { waiters = of_others claim.txn.session old.waiters ++ claim ∷ [] }).waiters
    by_wait true = h
    by_wait false = each_both P (of_others claim.txn.session old.waiters) (claim ∷ []) (each_filter P (λ c. not (is_of_session claim.txn.session c)) old.waiters h) (k, tt)

pub left_keep : (P : Claim → Type 0) (session : ℕ) (locks : Locks) → Each P locks.waiters → Each P (left_line locks session).waiters
left_keep P session locks h = each_filter P (λ c. not (is_of_session session c)) locks.waiters h

-- nobody comes into the line but the claim
pub comes : (claim : Claim) (old new : Locks) (result : LockAnswer) → Taken claim old new result → (other : Claim) → Contains new.waiters other
    → Contains old.waiters other ⊎ (other ≡ claim)
comes claim old new result t other there =
    let Known : Claim → Type 0 = λ c. Contains old.waiters c ⊎ (c ≡ claim) in
    each_at Known other new.waiters (in_from other new.waiters there.0 there.1 there.2)
    (waiters_keep Known claim old new result t (each_from Known old.waiters (λ c m. inl (in_contains c old.waiters m))) (inr refl))

pub in_line_holders : (locks : Locks) (claim : Claim) → (in_line locks claim).holders ≡ locks.holders
in_line_holders locks claim = by_wait (is_some (claim_of claim.txn locks.waiters))
  where
    by_wait : (b : Bool) → (if b then locks else record locks { waiters = of_others claim.txn.session locks.waiters ++ claim ∷ [] }).holders ≡ locks.holders
    by_wait true = refl
    by_wait false = refl

-- who waits changes no holder
pub held_up_holders : (claim : Claim) (old new : Locks) (by : TxnId) (key : ℕ) → Taken claim old new (Waits by key) → new.holders ≡ old.holders
held_up_holders claim old new by key t = ap (λ (l : Locks). l.holders) t.locks ∙ in_line_holders old claim

-- who holds from now on shares no key with the holders before it
pub served_apart : (claim : Claim) (old new : Locks) → Taken claim old new Got → IsFree claim.keys old.holders
served_apart claim old new t =
    subst (λ (cs : List Claim). IsFree claim.keys cs) (in_line_holders old claim)
    (each_parts (λ c. common_key claim.keys c.keys ≡ None) (in_line old claim).holders (before claim.txn (in_line old claim).waiters) t.free).0

-- where each waiter of the transaction has these keys, so has the one that is found
pub waits_for : (txn : TxnId) (keys : List ℕ) (claims : List Claim) → Each (λ c. c.txn ≡ txn → c.keys ≡ keys) claims
    → IfSome (claim_of txn claims) (λ waiting. waiting.keys ≡ keys)
waits_for txn keys claims h = by_claim (claim_of txn claims) refl
  where
    by_claim : (o : Option Claim) → claim_of txn claims ≡ o → IfSome o (λ waiting. waiting.keys ≡ keys)
    by_claim None e = tt
    by_claim (Some waiting) e =
        found_each (λ c. c.txn ≡ txn → c.keys ≡ keys) (is_of txn) claims waiting e h (txn_same waiting.txn txn (found_holds (is_of txn) claims waiting e))
