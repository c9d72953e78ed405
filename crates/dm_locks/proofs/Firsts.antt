-- What an answer says of the claims, one by one.
use Rattle.std.proofs.Common.{ℕ, ◌<◌, ◌≤◌, ◌≡◌, Bool, true, false, ◌==◌, cond, List, [], ◌∷◌, Option, Some, None, refl, sym, ap, ◌∙◌, arith, inl, inr}
use Rattle.std.proofs.lemmas.Bool.{false≢true, eqb-true, or_cases}
use Rattle.std.specs.List.{Contains, cons_option, filter_map}
use Rattle.std.specs.List.Sorted.{IsStrictlyIncreasing}
use Rattle.std.specs.Prelude.{find, option_map}
use Rattle.dm_event.specs.declared.step.TxnId.{TxnId}
use Rattle.dm_locks.proofs.Answers.{got_shares_none, got_where_none}
use Rattle.dm_locks.proofs.Members.{each_at, each_from, in_contains, in_from}
use Rattle.dm_locks.proofs.Merging.{Ascends, ascends_from, found_among}
use Rattle.dm_locks.specs.Claims.{IsCommon, IsFirst, answer, first_or_got, obstacle}
use Rattle.dm_locks.specs.declared.claim.Claim.{Claim}
use Rattle.dm_locks.specs.declared.table.LockAnswer.TheVariants.{Got, Waits}
use Rattle.dm_model.proofs.KeysAndBodies.{each_among, no_common}
use Rattle.dm_model.proofs.ListFacts.{found_holds}
use Rattle.dm_model.specs.Allowed.{common_key}
use Rattle.dm_model.specs.Tests.{is_among}

pub common_from : (keys : List ℕ) (claim : Claim) (key : ℕ) → common_key keys claim.keys ≡ Some key → IsCommon keys claim key
common_from keys claim key e = (found_among (is_among claim.keys) key keys e, found_holds (is_among claim.keys) keys key e)

pub got_apart : (keys : List ℕ) (claims : List Claim) → answer keys claims ≡ Got → (claim : Claim) → Contains claims claim → (key : ℕ) → IsCommon keys claim key
    → ⊥
got_apart keys claims got claim there key common =
    no_common keys claim.keys (each_at (λ other. common_key keys other.keys ≡ None) claim claims (in_from claim claims there.0 there.1 there.2)
    (got_shares_none keys claims got)) key common.0 common.1

pub apart_got : (keys : List ℕ) (claims : List Claim) → ((claim : Claim) → Contains claims claim → (key : ℕ) → IsCommon keys claim key → ⊥)
    → answer keys claims ≡ Got
apart_got keys claims apart =
    got_where_none keys claims (each_from (λ other. common_key keys other.keys ≡ None) claims
    (λ claim m. none claim (common_key keys claim.keys) refl (apart claim (in_contains claim claims m))))
  where
    none : (claim : Claim) (o : Option ℕ) → common_key keys claim.keys ≡ o → ((key : ℕ) → IsCommon keys claim key → ⊥) → common_key keys claim.keys ≡ None
    none claim None e f = e
    none claim (Some key) e f = absurd (f key (common_from keys claim key e))

-- the first that passes of an ascending list is the least
least_passes : (p : ℕ → Bool) (key other : ℕ) (keys : List ℕ) → Ascends keys → find p keys ≡ Some key → is_among keys other ≡ true → p other ≡ true
    → key ≤ other
least_passes p key other [] up e m t = absurd (false≢true m)
least_passes p key other (k ∷ ks) up e m t = by_test (p k) refl e (least_passes p key other ks up.1)
  where
    by_test : (b : Bool) → p k ≡ b → cond b (Some k) (find p ks) ≡ Some key → (find p ks ≡ Some key → is_among ks other ≡ true → p other ≡ true → key ≤ other)
        → key ≤ other
    by_test true q e rest =
        let same : k ≡ key = cc (e) in
        elim (or_cases (k == other) (is_among ks other) m) [
          | inl r ↦ let s = eqb-true k other r in omega arith
          | inr r ↦ let l : k < other = each_among (λ y. k < y) ks other up.0 r in omega arith
        ]
    by_test false q e rest = elim (or_cases (k == other) (is_among ks other) m) [
      | inl r ↦ absurd (false≢true (sym q ∙ ap p (eqb-true k other r) ∙ t))
      | inr r ↦ rest e r t
    ]

pub told_first : (keys : List ℕ) (claims : List Claim) (by : TxnId) (key : ℕ) → Ascends keys → answer keys claims ≡ Waits by key → (claim : Claim)
    × (claim.txn ≡ by) × IsFirst keys claims claim key
told_first keys [] by key up h = absurd (cc (h))
told_first keys (c ∷ cs) by key up h = by_common (common_key keys c.keys) refl h (told_first keys cs by key up)
  where
    here : (k : ℕ) → common_key keys c.keys ≡ Some k → k ≡ key → IsFirst keys (c ∷ cs) c key
    here k e same =
        let found : common_key keys c.keys ≡ Some key = e ∙ ap (λ (n : ℕ). Some n) same in
        record {
          front = [];
          rest = cs;
          place = refl;
          none_in_front = λ other there shared common. absurd (omega (arith, there.1));
          shared = common_from keys c key found;
          least = λ other common. least_passes (is_among c.keys) key other keys up found common.0 common.1;
        }

    later : (claim : Claim) → common_key keys c.keys ≡ None → IsFirst keys cs claim key → IsFirst keys (c ∷ cs) claim key
    later claim e f = record {
      front = c ∷ f.front;
      rest = f.rest;
      place = ap (λ (xs : List Claim). c ∷ xs) f.place;
      none_in_front = λ other there shared common. elim (in_from other (c ∷ f.front) there.0 there.1 there.2) [
        | inl q ↦ no_common keys c.keys e shared common.0 (ap (λ (z : Claim). is_among z.keys shared) q ∙ common.1)
        | inr m ↦ f.none_in_front other (in_contains other f.front m) shared common
      ];
      shared = f.shared;
      least = f.least;
    }

    by_common : (o : Option ℕ) → common_key keys c.keys ≡ o → first_or_got (cons_option (option_map (λ k. Waits c.txn k) o) (filter_map (obstacle keys) cs)) ≡
        Waits by key
        → (answer keys cs ≡ Waits by key → (claim : Claim) × (claim.txn ≡ by) × IsFirst keys cs claim key)
        → (claim : Claim) × (claim.txn ≡ by) × IsFirst keys (c ∷ cs) claim key
    by_common None e g rest = let r = rest g in (r.0, r.1, later r.0 e r.2)
    by_common (Some k) e g rest =
        let who : c.txn ≡ by = cc (g) in
        let what : k ≡ key = cc (g) in
        (c, who, here k e what)

pub answers_first : (keys : List ℕ) (claims : List Claim) (by : TxnId) (key : ℕ) → IsStrictlyIncreasing keys → answer keys claims ≡ Waits by key
    → (claim : Claim) × (claim.txn ≡ by) × IsFirst keys claims claim key
answers_first keys claims by key up h = told_first keys claims by key (ascends_from keys up) h
