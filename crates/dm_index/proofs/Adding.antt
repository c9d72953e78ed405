-- The places of the entries after one step more.
use Rattle.std.proofs.Common.{ℕ, zero, suc, ◌+◌, ◌-◌, ◌<◌, ◌≤◌, ◌≡◌, ◌≢◌, ◌==◌, ◌&&◌, Bool, true, false, if◌then◌else◌, List, [], ◌∷◌, ◌++◌, Option, Some, None}
use Rattle.std.proofs.Common.{length, refl, sym, ap, ◌∙◌, subst, arith, inl, inr, unwrap_or, set}
use Rattle.std.proofs.lemmas.Bool.{cases_eq, eq-eqb, ne_eqb, and_from, and_left, and_right, cond-true, cond-false, cases_lt}
use Rattle.std.proofs.lemmas.Option.{slice_get_past}
use Rattle.std.proofs.lemmas.List.{reverse-append, length-append, length-set}
use Rattle.std.specs.Option.{option_or}
use Rattle.std.specs.Prelude.{option_and_then, reverse, slice_get}
use Rattle.dm_event.specs.Layout.{Layout}
use Rattle.dm_event.specs.declared.step.Entry.{Entry}
use Rattle.dm_event.specs.declared.step.Step.{Step}
use Rattle.dm_model.specs.Acts.{entry_at}
use Rattle.dm_model.specs.Progress.{entry_count}
use Rattle.dm_index.specs.Places.{place_in, places_of, carried, carried_at, with_place, AreEntries}
use Rattle.dm_steps.proofs.Sites.{entry_next, count_next}
use Rattle.dm_steps.proofs.Slots.{slot_own, slot_other}
use Rattle.dm_steps.specs.Adding.{with_number, of_origin}
use Rattle.dm_steps.specs.Pendings.{kept_of, entry_by}
use Rattle.dm_steps.specs.Slots.{numbered_in}

module _ {X : Type 0} where
  pub front : (xs ys : List X) (k : ℕ) → k < length xs → slice_get (xs ++ ys) k ≡ slice_get xs k
  front [] ys k h = absurd (omega (arith, h))
  front (x ∷ xs) ys zero h = refl
  front (x ∷ xs) ys (suc k) h = front xs ys k (omega (arith, h))

  pub last : (xs : List X) (y : X) (k : ℕ) → k ≡ length xs → slice_get (xs ++ y ∷ []) k ≡ Some y
  last [] y k h = ap (λ (j : ℕ). slice_get (y ∷ []) j) h
  last (x ∷ xs) y zero h = absurd (omega (arith, h))
  last (x ∷ xs) y (suc k) h = last xs y k (omega (arith, h))

  -- the number behind the last, and the others
  numbered_last : (xs : List X) (y : X) (n : ℕ) → n ≡ suc (length xs) → numbered_in (xs ++ y ∷ []) n ≡ Some y
  numbered_last xs y zero h = absurd (omega (arith, h))
  numbered_last xs y (suc k) h = last xs y k (omega (arith, h))

  numbered_front : (xs : List X) (y : X) (n : ℕ) → n ≢ suc (length xs) → numbered_in (xs ++ y ∷ []) n ≡ numbered_in xs n
  numbered_front xs y zero h = refl
  numbered_front xs y (suc k) h = elim (cases_lt k (length xs)) [
    | inl l ↦ front xs (y ∷ []) k l
    | inr g ↦ (
        let long = length-append xs (y ∷ []) in
        slice_get_past (xs ++ y ∷ []) k (omega (arith, long, g, h)) ∙ sym (slice_get_past xs k g)
        )
  ]

  -- what a list has at a number, where another was set
  numbered_own : (xs : List X) (i : ℕ) (y : X) → 1 ≤ i → i ≤ length xs → numbered_in (set xs (i - 1) y) i ≡ Some y
  numbered_own xs zero y l m = absurd (omega (arith, l))
  numbered_own xs (suc k) y l m =
      let e : suc k - 1 ≡ k = omega arith in
      ap (λ (j : ℕ). slice_get (set xs j y) k) e ∙ slot_own xs k y (omega (arith, m))

  numbered_other : (xs : List X) (i j : ℕ) (y : X) → 1 ≤ i → j ≢ i → numbered_in (set xs (i - 1) y) j ≡ numbered_in xs j
  numbered_other xs i zero y l n = refl
  numbered_other xs i (suc k) y l n = slot_other xs (i - 1) k y (λ e. n (omega (arith, e, l)))

module _ (layout : Layout) (steps : List Step) (lists : List (List ℕ)) (are : AreEntries layout steps lists) (s : Step) where
  past : List Step
  past = reverse steps

  last_first : reverse (steps ++ s ∷ []) ≡ s ∷ reverse steps
  last_first = reverse-append steps (s ∷ [])

  longer : length (steps ++ s ∷ []) ≡ suc (length steps)
  longer = (let e = length-append steps (s ∷ []) in omega (arith, e))

  -- what stands at a place stays
  stays : (o : Option ℕ) → ((p : ℕ) → o ≡ Some p → p < length steps)
      → option_and_then (carried_at (steps ++ s ∷ [])) o ≡ option_and_then (carried_at steps) o
  stays None h = refl
  stays (Some p) h = ap (λ (x : Option Step). option_and_then carried x) (front steps (s ∷ []) p (h p refl))

  counted : (j : ℕ) → entry_count j (reverse (steps ++ s ∷ [])) ≡ entry_count j (reverse steps) + of_origin j (entry_by s (kept_of s (reverse steps)))
  counted j = ap (λ (l : List Step). entry_count j l) last_first ∙ count_next s (reverse steps) j

  pub with_none : entry_by s (kept_of s (reverse steps)) ≡ None → AreEntries layout (steps ++ s ∷ []) lists
  with_none e = record {
    long = are.long;
    found = λ j n. stays (place_in lists j n) (are.below j n) ∙ are.found j n
        ∙ sym (ap (λ (l : List Step). entry_at j n l) last_first ∙ entry_next s (reverse steps) j n
        ∙ ap (λ (o : Option Entry). option_or (with_number j n o) (entry_at j n (reverse steps))) e);
    counts = λ j.
        let before = are.counts j in
        let after = counted j in
        let none : of_origin j (entry_by s (kept_of s (reverse steps))) ≡ 0 = ap (λ (o : Option Entry). of_origin j o) e in
        omega (arith, before, after, none);
    below = λ j n p h. let l = are.below j n p h in omega (arith, l, longer);
  }

  module _ (e : Entry) (place : ℕ) (adds : entry_by s (kept_of s (reverse steps)) ≡ Some e) (least : 1 ≤ e.origin) (most : e.origin ≤ layout.sites)
      (due : e.seq ≡ suc (entry_count e.origin (reverse steps))) (here : carried_at (steps ++ s ∷ []) place ≡ Some e)
      (inside : place < suc (length steps)) where
    abbrev longest : List ℕ
    longest = places_of lists e.origin ++ place ∷ []

    abbrev grown : List (List ℕ)
    grown = set lists (e.origin - 1) longest

    own : numbered_in grown e.origin ≡ Some longest
    own = numbered_own lists e.origin longest least (omega (arith, most, are.long))

    old_own : (n : ℕ) → place_in lists e.origin n ≡ numbered_in (places_of lists e.origin) n
    old_own n = by (numbered_in lists e.origin)
      where
        by : (o : Option (List ℕ)) → option_and_then (λ l. numbered_in l n) o ≡ numbered_in (unwrap_or o []) n
        by (Some l) = refl
        by None = nothing n
          where
            nothing : (m : ℕ) → None ≡ numbered_in {X = ℕ} [] m
            nothing zero = refl
            nothing (suc m) = refl

    new_own : (n : ℕ) → place_in grown e.origin n ≡ numbered_in longest n
    new_own n = ap (λ (o : Option (List ℕ)). option_and_then (λ l. numbered_in l n) o) own

    new_other : (j n : ℕ) → j ≢ e.origin → place_in grown j n ≡ place_in lists j n
    new_other j n ne = ap (λ (o : Option (List ℕ)). option_and_then (λ l. numbered_in l n) o) (numbered_other lists e.origin j longest least ne)

    after : (j n : ℕ) → entry_at j n (reverse (steps ++ s ∷ []))
        ≡ option_or (if (e.origin == j) && (e.seq == n) then Some e else None) (entry_at j n (reverse steps))
    after j n =
        ap (λ (l : List Step). entry_at j n l) last_first ∙ entry_next s (reverse steps) j n
        ∙ ap (λ (o : Option Entry). option_or (with_number j n o) (entry_at j n (reverse steps))) adds

    or_this : (b : Bool) (o : Option Entry) → b ≡ true → option_or (if b then Some e else None) o ≡ Some e
    or_this true o h = refl
    or_this false o h = absurd (cc (h))

    or_that : (b : Bool) (o : Option Entry) → b ≡ false → option_or (if b then Some e else None) o ≡ o
    or_that false o h = refl
    or_that true o h = absurd (cc (h))

    found_own : (n : ℕ) → option_and_then (carried_at (steps ++ s ∷ [])) (place_in grown e.origin n)
        ≡ option_or (if (e.origin == e.origin) && (e.seq == n) then Some e else None) (entry_at e.origin n (reverse steps))
    found_own n = elim (cases_eq n e.seq) [
      | inl p ↦ (
          ap (λ (o : Option ℕ). option_and_then (carried_at (steps ++ s ∷ [])) o)
          (new_own n ∙ numbered_last (places_of lists e.origin) place n (let c = are.counts e.origin in omega (arith, p, due, c)))
          ∙ here
          ∙ sym (or_this _ (entry_at e.origin n (reverse steps))
          (and_from (e.origin == e.origin) (e.seq == n) (eq-eqb e.origin e.origin refl) (eq-eqb e.seq n (sym p))))
          )
      | inr q ↦ (
          ap (λ (o : Option ℕ). option_and_then (carried_at (steps ++ s ∷ [])) o)
          (new_own n ∙ numbered_front (places_of lists e.origin) place n (λ h. q (let c = are.counts e.origin in omega (arith, h, due, c))) ∙ sym (old_own n))
          ∙ stays (place_in lists e.origin n) (are.below e.origin n) ∙ are.found e.origin n
          ∙ sym (or_that _ (entry_at e.origin n (reverse steps)) (and_right (e.origin == e.origin) (e.seq == n) (ne_eqb e.seq n (λ h. q (sym h)))))
          )
    ]

    pub with_one : AreEntries layout (steps ++ s ∷ []) (with_place lists (Some e) place)
    with_one = record {
      long = length-set lists (e.origin - 1) longest ∙ are.long;
      found = λ j n. elim (cases_eq j e.origin) [
        | inl p ↦ subst (λ (i : ℕ). option_and_then (carried_at (steps ++ s ∷ [])) (place_in grown i n) ≡ entry_at i n (reverse (steps ++ s ∷ [])))
            (sym p) (found_own n ∙ sym (after e.origin n))
        | inr q ↦ (
            ap (λ (o : Option ℕ). option_and_then (carried_at (steps ++ s ∷ [])) o) (new_other j n q)
            ∙ stays (place_in lists j n) (are.below j n) ∙ are.found j n
            ∙ sym (after j n ∙ or_that _ (entry_at j n (reverse steps)) (and_left (e.origin == j) (e.seq == n) (ne_eqb e.origin j (λ h. q (sym h)))))
            )
      ];
      counts = λ j. elim (cases_eq j e.origin) [
        | inl p ↦ subst (λ (i : ℕ). length (places_of grown i) ≡ entry_count i (reverse (steps ++ s ∷ []))) (sym p)
            (ap (λ (o : Option (List ℕ)). length (unwrap_or o [])) own
            ∙ (let long = length-append (places_of lists e.origin) (place ∷ []) in
            let before = are.counts e.origin in
            let after = counted e.origin in
            let one : of_origin e.origin (entry_by s (kept_of s (reverse steps))) ≡ 1 =
            ap (λ (o : Option Entry). of_origin e.origin o) adds ∙ cond-true (e.origin == e.origin) 1 0 (eq-eqb e.origin e.origin refl) in
            omega (arith, long, before, after, one)))
        | inr q ↦ (
            ap (λ (o : Option (List ℕ)). length (unwrap_or o [])) (numbered_other lists e.origin j longest least q)
            ∙ (let before = are.counts j in
            let after = counted j in
            let none : of_origin j (entry_by s (kept_of s (reverse steps))) ≡ 0 =
            ap (λ (o : Option Entry). of_origin j o) adds ∙ cond-false (e.origin == j) 1 0 (ne_eqb e.origin j (λ h. q (sym h))) in
            omega (arith, before, after, none))
            )
      ];
      below = λ j n p h. elim (cases_eq j e.origin) [
        | inl a ↦ own_below n p (sym (new_own n) ∙ ap (λ (i : ℕ). place_in grown i n) (sym a) ∙ h)
        | inr q ↦ (let l = are.below j n p (sym (new_other j n q) ∙ h) in omega (arith, l, longer))
      ];
    }
      where
        own_below : (n p : ℕ) → numbered_in longest n ≡ Some p → p < length (steps ++ s ∷ [])
        own_below n p h = elim (cases_eq n (suc (length (places_of lists e.origin)))) [
          | inl a ↦ (
              let found : Some place ≡ Some p = sym (numbered_last (places_of lists e.origin) place n a) ∙ h in
              let same : place ≡ p = cc (found) in
              omega (arith, same, inside, longer)
              )
          | inr q ↦ (
              let l = are.below e.origin n p (old_own n ∙ sym (numbered_front (places_of lists e.origin) place n q) ∙ h) in
              omega (arith, l, longer)
              )
        ]
