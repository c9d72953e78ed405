-- Of two waiters that share a key the earlier one is served first, and the first of all once the holders are gone.
use Rattle.std.proofs.Common.{ℕ, ◌≡◌, Bool, true, false, not, cond, List, [], ◌∷◌, ◌++◌, map, Option, Some, None, refl, sym, ap, ◌∙◌, subst, arith, inl, inr}
use Rattle.std.proofs.lemmas.Bool.{false≢true, eq-eqb}
use Rattle.std.specs.List.{AllByRecursion as Each, Contains, filter}
use Rattle.std.specs.Prelude.{option_map, unwrap_or}
use Rattle.dm_event.specs.declared.step.TxnId.{TxnId}
use Rattle.dm_locks.proofs.Answers.{got_where_none}
use Rattle.dm_locks.proofs.Counts.{count-append, count_none, each_both}
use Rattle.dm_locks.proofs.Members.{In, each_at, each_from, found_in, in_contains, in_counted, in_from, in_left, in_right, not_both_in_front}
use Rattle.dm_locks.proofs.Merging.{found_among}
use Rattle.dm_locks.proofs.Overtaking.{Kept, run_kept}
use Rattle.dm_locks.proofs.Places.{filter_keeps}
use Rattle.dm_locks.proofs.Runs.{reached_sound}
use Rattle.dm_locks.specs.Calls.{Call, GiveBack, IsWaiting, Reached, Share, WaitsOn, after, after_all}
use Rattle.dm_locks.specs.Claims.{answer, before, is_of, is_of_session, without}
use Rattle.dm_locks.specs.Locks.{Locks, ahead, answer_at_poll}
use Rattle.dm_locks.specs.declared.claim.Claim.{Claim}
use Rattle.dm_locks.specs.declared.table.LockAnswer.TheVariants.{Got}
use Rattle.dm_model.proofs.SameValues.{txn_same, txn_own}
use Rattle.dm_model.proofs.ListFacts.{each_map, found_holds}
use Rattle.dm_model.specs.Allowed.{common_key}
use Rattle.dm_model.specs.Tests.{is_among}

pub was_ahead : (locks : Locks) (claim : Claim) (calls : List Call) → WaitsOn locks calls claim
    → (holder : Claim) → Contains (after_all locks calls).holders holder → Share claim holder → Contains (ahead claim.txn locks) holder
was_ahead locks claim calls on holder holds share =
    let front = before claim.txn locks.waiters in
    let Was : Claim → Type 0 = λ c. In c (ahead claim.txn locks) in
    let kept : Kept Was Was claim locks = record {
      holders = each_from (λ c. Share claim c → In c (ahead claim.txn locks)) locks.holders (λ c m _. in_left c locks.holders front m);
      front = each_from (λ c. In c (ahead claim.txn locks)) front (λ c m. in_right c locks.holders front m);
    } in
    let last = run_kept Was Was claim (λ c w _. w) locks calls on kept in
    let end = (after_all locks calls).holders in
    in_contains holder (ahead claim.txn locks) (each_at (λ c. Share claim c → In c (ahead claim.txn locks)) holder end
    (in_from holder end holds.0 holds.1 holds.2) last.holders share)

-- a session with a holder has no waiter
holds_or_waits : (locks : Locks) → Reached locks → (x y : Claim) → In x locks.holders → In y locks.waiters → x.txn.session ≡ y.txn.session → ⊥
holds_or_waits locks r x y m n e =
    let session = y.txn.session in
    let one = (reached_sound locks r).one_claim session in
    let both = count-append (is_of_session session) locks.holders locks.waiters in
    let a = in_counted (is_of_session session) x locks.holders m (eq-eqb x.txn.session session e) in
    let b = in_counted (is_of_session session) y locks.waiters n (eq-eqb y.txn.session session refl) in
    omega arith

pub never_before : (locks : Locks) → Reached locks → (earlier later : Claim) → IsWaiting locks earlier → IsWaiting locks later
    → Contains (before later.txn locks.waiters) earlier → Share earlier later → (calls : List Call) → WaitsOn locks calls earlier
    → Contains (after_all locks calls).holders later → ⊥
never_before locks r earlier later w v front share calls on holds =
    let Other : Claim → Type 0 = λ c. c ≡ later → ⊥ in
    let there : In later locks.waiters = found_in (is_of later.txn) later locks.waiters v in
    let before_later : In earlier (before later.txn locks.waiters) = in_from earlier (before later.txn locks.waiters) front.0 front.1 front.2 in
    let kept : Kept Other Other earlier locks = record {
      holders = each_from (λ c. Share earlier c → c ≡ later → ⊥) locks.holders
          (λ c m _ e. holds_or_waits locks r c later m there (ap (λ (x : Claim). x.txn.session) e));
      front = each_from (λ c. c ≡ later → ⊥) (before earlier.txn locks.waiters)
          (λ c m e. not_both_in_front later earlier locks.waiters (subst (λ (x : Claim). In x (before earlier.txn locks.waiters)) e m) before_later);
    } in
    let last = run_kept Other Other earlier (λ c o _. o) locks calls on kept in
    each_at (λ c. Share earlier c → c ≡ later → ⊥) later (after_all locks calls).holders (in_from later (after_all locks calls).holders holds.0 holds.1 holds.2)
    last.holders share refl

-- ---- the first waiter

waits_last : (locks : Locks) (calls : List Call) (claim : Claim) → WaitsOn locks calls claim → IsWaiting (after_all locks calls) claim
waits_last locks [] claim w = w
waits_last locks (call ∷ calls) claim w = waits_last (after locks call) calls claim w.1

pub share_from : (a b : Claim) (key : ℕ) → common_key a.keys b.keys ≡ Some key → Share a b
share_from a b key e = (key, found_among (is_among b.keys) key a.keys e, found_holds (is_among b.keys) a.keys key e)

front_nobody : (first : Claim) (rest : List Claim) → Each (λ c. ⊥) (before first.txn (first ∷ rest))
front_nobody first rest = by_test (is_of first.txn first) (txn_own first.txn)
  where
    by_test : (b : Bool) → b ≡ true → Each (λ (c : Claim). ⊥) (cond b [] (first ∷ before first.txn rest))
    by_test true e = tt
    by_test false e = absurd (false≢true e)

pub first_served : (locks : Locks) (first : Claim) (rest : List Claim) → locks.waiters ≡ first ∷ rest → (calls : List Call) → WaitsOn locks calls first
    → ((holder : Claim) → Contains locks.holders holder → Contains (after_all locks calls).holders holder → ⊥)
    → answer_at_poll (after_all locks calls) first.txn ≡ Got
first_served locks first rest q calls on given =
    let end = after_all locks calls in
    let kept : Kept (λ c. Contains locks.holders c) (λ c. ⊥) first locks = record {
      holders = each_from (λ c. Share first c → Contains locks.holders c) locks.holders (λ c m _. in_contains c locks.holders m);
      front = subst (λ (ws : List Claim). Each (λ c. ⊥) (before first.txn ws)) (sym q) (front_nobody first rest);
    } in
    let last = run_kept (λ c. Contains locks.holders c) (λ c. ⊥) first (λ c o _. absurd o) locks calls on kept in
    let free : Each (λ c. common_key first.keys c.keys ≡ None) end.holders =
    each_from (λ c. common_key first.keys c.keys ≡ None) end.holders (λ c m. none c (common_key first.keys c.keys) refl
    (λ share. given c (each_at (λ x. Share first x → Contains locks.holders x) c end.holders m last.holders share) (in_contains c end.holders m))) in
    let front : Each (λ c. common_key first.keys c.keys ≡ None) (before first.txn end.waiters) =
    each_map (λ c. ⊥) (λ c. common_key first.keys c.keys ≡ None) (λ c o. absurd o) (before first.txn end.waiters) last.front in
    ap (λ (o : Option Claim). answer (unwrap_or (option_map (λ c. c.keys) o) []) (end.holders ++ before first.txn end.waiters))
    (waits_last locks calls first on)
    ∙ got_where_none first.keys (end.holders ++ before first.txn end.waiters)
    (each_both (λ c. common_key first.keys c.keys ≡ None) end.holders (before first.txn end.waiters) free front)
  where
    none : (c : Claim) (o : Option ℕ) → common_key first.keys c.keys ≡ o → (Share first c → ⊥) → common_key first.keys c.keys ≡ None
    none c None e no_share = e
    none c (Some key) e no_share = absurd (no_share (share_from first c key e))

-- ---- all holders give back

removed : List Claim → List Claim → List Claim
removed [] cs = cs
removed (x ∷ xs) cs = removed xs (without x.txn cs)

given_all : (xs holders waiters : List Claim) → after_all (record { holders = holders; waiters = waiters }) (map (λ (x : Claim). GiveBack x.txn) xs) ≡ record
    { holders = removed xs holders; waiters = removed xs waiters }
unfolding removed
given_all [] holders waiters = refl
given_all (x ∷ xs) holders waiters = given_all xs (without x.txn holders) (without x.txn waiters)

each_left : (P Q : Claim → Type 0) (q : Claim → Bool) → ((x : Claim) → P x → q x ≡ true → Q x) → (xs : List Claim) → Each P xs → Each Q (filter q xs)
each_left P Q q f [] h = tt
each_left P Q q f (x ∷ xs) h = by_test (q x) refl (each_left P Q q f xs h.1)
  where
    by_test : (b : Bool) → q x ≡ b → Each Q (filter q xs) → Each Q (cond b (x ∷ filter q xs) (filter q xs))
    by_test true e rest = (f x h.0 e, rest)
    by_test false e rest = rest

none_left : (xs cs : List Claim) → Each (λ c. In c xs) cs → removed xs cs ≡ []
unfolding removed
none_left [] [] h = refl
none_left [] (c ∷ cs) h = absurd h.0
none_left (x ∷ xs) cs h = none_left xs (without x.txn cs) (each_left (λ c. In c (x ∷ xs)) (λ c. In c xs) (λ c. not (is_of x.txn c)) others cs h)
  where
    others : (c : Claim) → In c (x ∷ xs) → not (is_of x.txn c) ≡ true → In c xs
    others c (inl e) n = absurd (false≢true (sym (ap (λ (b : Bool). not b) (ap (λ (z : Claim). is_of x.txn z) (sym e) ∙ txn_own x.txn)) ∙ n))
    others c (inr m) n = m

all_left : (xs cs : List Claim) → Each (λ x. Each (λ c. is_of x.txn c ≡ false) cs) xs → removed xs cs ≡ cs
unfolding removed
all_left [] cs h = refl
all_left (x ∷ xs) cs h =
    ap (λ (ds : List Claim). removed xs ds) (filter_keeps (is_of x.txn) cs (count_none (is_of x.txn) cs h.0)) ∙ all_left xs cs h.1

pub emptied : (locks : Locks) → Reached locks → after_all locks (map (λ (holder : Claim). GiveBack holder.txn) locks.holders) ≡ record {
  holders = [];
  waiters =
      locks.waiters;
}
emptied locks r =
    given_all locks.holders locks.holders locks.waiters
    ∙ ap (λ (hs : List Claim). record { holders = hs; waiters = removed locks.holders locks.waiters })
    (none_left locks.holders locks.holders (each_from (λ c. In c locks.holders) locks.holders (λ c m. m)))
    ∙ ap (λ (ws : List Claim). record { holders = []; waiters = ws }) (all_left locks.holders locks.waiters
    (each_from (λ x. Each (λ c. is_of x.txn c ≡ false) locks.waiters) locks.holders
    (λ x m. each_from (λ c. is_of x.txn c ≡ false) locks.waiters (λ c n. other x c m n (is_of x.txn c) refl))))
  where
    other : (x c : Claim) → In x locks.holders → In c locks.waiters → (b : Bool) → is_of x.txn c ≡ b → is_of x.txn c ≡ false
    other x c m n true e = absurd (holds_or_waits locks r x c m n (ap (λ (t : TxnId). t.session) (sym (txn_same c.txn x.txn e))))
    other x c m n false e = e
