-- What each kind of step needs.
use Rattle.std.proofs.Common.{ℕ, ◌+◌, ◌-◌, ◌<◌, ◌≤◌, ◌≡◌, ◌==◌, Bool, true, false, if◌then◌else◌, List, [], ◌∷◌, length, refl, arith}
use Rattle.std.proofs.lemmas.Bool.{eqb-true}
use Rattle.std.specs.List.{range_with_len, sum_by}
use Rattle.dm_event.specs.Layout.{Layout}
use Rattle.dm_event.specs.declared.limits.TheConstants.{MAX_SESSIONS}
use Rattle.dm_event.specs.declared.step.Found.{Found}
use Rattle.dm_event.specs.declared.step.Pending.{Pending}
use Rattle.dm_event.specs.declared.step.Said.{Said}
use Rattle.dm_event.specs.declared.step.Step.{Step}
use Rattle.dm_event.specs.declared.step.Step.TheVariants.{Route, Reply, Ask, Doubt, Restart}
use Rattle.dm_model.specs.Attempts.{replies, state}
use Rattle.dm_model.specs.Doubts.{is_down}
use Rattle.dm_model.specs.Legal.{LegalPast}
use Rattle.dm_room.proofs.KeptNext.{kept_next}
use Rattle.dm_room.proofs.Sums.{same_sum, flat_sum}
use Rattle.dm_room.specs.Room.{live, items_of, unanswered, kept, need, runners, comes_on, comes_off}
use Rattle.dm_steps.specs.Pendings.{kept_of}

by_parts : (before after on off : ℕ) → after + off ≡ before + on → 1 + after - before ≡ 1 + on - off
by_parts before after on off e = omega (arith, e)

on_few : (s : Step) (down : ℕ → Bool) → comes_on s down ≤ 3
on_few (Restart site vector found) down = by_down (down site)
  where
    by_down : (b : Bool) → (if b then 1 else 0) ≤ 3
    by_down true = omega arith
    by_down false = omega arith
on_few (Route txn want least site choice) down = omega arith
on_few (Ask part epoch to txn) down = omega arith
on_few other down = omega arith

module _ (layout : Layout) (items : List ℕ) (past : List Step) where
  abbrev pub on : Step → ℕ
  on s = comes_on s (λ site. is_down site past)

  abbrev pub off : Step → ℕ
  off s = comes_off s (λ session. unanswered items past session) (λ session. state session past) (λ site. runners site past) (kept_of s past)

  -- its own place and what comes on, less what comes off
  pub need_is : (s : Step) → LegalPast layout (s ∷ past) → need layout items past s ≡ 1 + on s - off s
  need_is s h = by_parts (kept layout items past) (kept layout items (s ∷ past)) (on s) (off s) (kept_next layout items past h.0 s h.1)

  pub doubt_free : (site : ℕ) (p : Pending) → LegalPast layout (Doubt site p ∷ past) → need layout items past (Doubt site p) ≡ 0
  doubt_free site p h = let e = need_is (Doubt site p) h in omega (arith, e)

  -- the answer to a counted item
  pub reply_free : (session number : ℕ) (said : Said) → LegalPast layout (Reply session number said ∷ past) → replies session past < items_of items session
      → need layout items past (Reply session number said) ≡ 0
  reply_free session number said h counted = by_left (unanswered items past session == 0) refl (need_is (Reply session number said) h)
    where
      by_left : (b : Bool) → (unanswered items past session == 0) ≡ b
          → need layout items past (Reply session number said) ≡ 1 - ((if b then 0 else 1) + live (state session past))
          → need layout items past (Reply session number said) ≡ 0
      by_left true e n = let none = eqb-true (unanswered items past session) 0 e in absurd (omega (arith, none, counted))
      by_left false e n = omega (arith, n)

  pub restart_few : (site : ℕ) (vector : List ℕ) (found : Found) → LegalPast layout (Restart site vector found ∷ past)
      → need layout items past (Restart site vector found) ≤ 2
  restart_few site vector found h = by_down (is_down site past) (need_is (Restart site vector found) h)
    where
      by_down : (b : Bool) → need layout items past (Restart site vector found) ≡ 1 + (if b then 1 else 0) - off (Restart site vector found)
          → need layout items past (Restart site vector found) ≤ 2
      by_down true e = omega (arith, e)
      by_down false e = omega (arith, e)

  pub each_few : (s : Step) → LegalPast layout (s ∷ past) → need layout items past s ≤ 4
  each_few s h = let e = need_is s h in let l = on_few s (λ site. is_down site past) in omega (arith, e, l)

-- at the opening all items are unanswered, and all sites are up
pub opening : (layout : Layout) (items : List ℕ)
    → kept layout items [] ≡ sum_by (λ session. items_of items session) (range_with_len 1 MAX_SESSIONS) + layout.sites
opening layout items =
    let left = same_sum (λ session. items_of items session) (λ session. unanswered items [] session) (range_with_len 1 MAX_SESSIONS) (λ session. omega arith) in
    let live = flat_sum 0 1 MAX_SESSIONS in
    let up = flat_sum 1 1 layout.sites in
    let owed = flat_sum 0 0 (length layout.masters) in
    omega (arith, left, live, up, owed)
