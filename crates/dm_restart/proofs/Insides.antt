-- The transactions of a history inside a vector, of which a site may lack its own last one.
use Rattle.std.proofs.Common.{ℕ, zero, suc, ◌+◌, ◌<◌, ◌≤◌, ◌≡◌, ◌≢◌, List, [], ◌∷◌, ◌++◌, length, refl, ap, sym, ◌∙◌, subst, arith, map, Bool, true, false, cond}
use Rattle.std.proofs.Common.{not, nat_le, ◌==◌, filter, Option, Some, None, inl, inr, min, true≢false}
use Rattle.std.proofs.lemmas.Bool.{and_from, and_parts, cases_eq, cases_lt, eq-eqb, ne_eqb, eqb-true, leb-true, le-leb, lt-ltb, le-ltb}
use Rattle.std.proofs.lemmas.List.{map-append, append-nil, append_assoc, reverse-append}
use Rattle.std.proofs.lemmas.List.Elements.{filter-append}
use Rattle.std.proofs.lemmas.List.Folds.{find-append}
use Rattle.std.specs.List.{range_with_len, AllByRecursion as Each}
use Rattle.std.specs.Option.{option_or}
use Rattle.std.specs.Prelude.{reverse, find, option_to_list}
use Rattle.dm_event.specs.Vectors.{at, has_number}
use Rattle.dm_event.specs.declared.limits.TheConstants.{MAX_KEYS}
use Rattle.dm_event.specs.declared.step.Entry.{Entry}
use Rattle.dm_event.specs.declared.step.Pair.{Pair}
use Rattle.dm_model.proofs.Numbering.{Numbered, count_at, count_own, count_other}
use Rattle.dm_model.specs.Closed.{is_inside}
use Rattle.dm_model.specs.Shape.{is_ascending}
use Rattle.dm_plain.proofs.Written.{Small}
use Rattle.dm_record.specs.declared.record.Record.{Record}
use Rattle.dm_restart.proofs.Lacking.{find_same}
use Rattle.dm_restart.proofs.Numbers.{numbers-append, one_of_range, above_range}
use Rattle.dm_restart.proofs.Reversing.{each_reverse}
use Rattle.dm_restart.specs.Plans.{numbers_of, commits_of, is_one_of, is_numbered_above, lacking, completed}
use Rattle.dm_store.specs.Histories.{past_of}
use Rattle.dm_store.specs.Rising.{fits, is_above, may_install}
use Rattle.dm_store.specs.declared.past.Past.{Past}

range_more : (a n : ℕ) → range_with_len a n ++ (a + n) ∷ [] ≡ range_with_len a (suc n)
range_more a zero = ap (λ (x : ℕ). x ∷ []) (let e : a + 0 ≡ a = omega arith in e)
range_more a (suc n) = ap (λ (xs : List ℕ). a ∷ xs)
    (ap (λ (x : ℕ). range_with_len (a + 1) n ++ x ∷ []) (let e : a + suc n ≡ a + 1 + n = omega arith in e) ∙ range_more (a + 1) n)

-- the entries inside the vector, of which the latest stands first
abbrev pub inside : List ℕ → List Entry → List Past
inside v es = map past_of (filter (is_inside v) (reverse es))

pub inside_more : (v : List ℕ) (e : Entry) (es : List Entry) → inside v (e ∷ es) ≡ inside v es ++ map past_of (cond (is_inside v e) (e ∷ []) [])
inside_more v e es =
    ap (λ (ds : List Entry). map past_of (filter (is_inside v) ds)) (reverse-append (e ∷ []) es)
    ∙ ap (λ (ds : List Entry). map past_of ds) (filter-append (is_inside v) (reverse es) (e ∷ []))
    ∙ map-append past_of (filter (is_inside v) (reverse es)) (cond (is_inside v e) (e ∷ []) [])

-- of each origin they have the numbers from 1 on
pub inside_numbers : (v : List ℕ) (es : List Entry) → Numbered es → (o : ℕ) → numbers_of o (inside v es) ≡ range_with_len 1 (min (at v o) (count_at o es))
inside_numbers v [] n o = ap (λ (k : ℕ). range_with_len 1 k) (let e : 0 ≡ min (at v o) 0 = omega arith in e)
inside_numbers v (e ∷ es) n o =
    ap (λ (ts : List Past). numbers_of o ts) (inside_more v e es)
    ∙ numbers-append o (inside v es) (map past_of (cond (is_inside v e) (e ∷ []) []))
    ∙ ap (λ (xs : List ℕ). xs ++ numbers_of o (map past_of (cond (is_inside v e) (e ∷ []) []))) (inside_numbers v es n.1 o)
    ∙ elim (cases_eq e.origin o) [ inl p ↦ own p | inr q ↦ other q ]
  where
    other : e.origin ≢ o → range_with_len 1 (min (at v o) (count_at o es)) ++ numbers_of o (map past_of (cond (is_inside v e) (e ∷ []) []))
        ≡ range_with_len 1 (min (at v o) (count_at o (e ∷ es)))
    other q = ap (λ (xs : List ℕ). range_with_len 1 (min (at v o) (count_at o es)) ++ xs) (none (is_inside v e))
        ∙ append-nil (range_with_len 1 (min (at v o) (count_at o es)))
        ∙ ap (λ (k : ℕ). range_with_len 1 (min (at v o) k)) (sym (count_other e es o q))
      where
        none : (b : Bool) → numbers_of o (map past_of (cond b (e ∷ []) [])) ≡ []
        none true = ap (λ (c : Bool). map (λ (t : Past). t.seq) (cond c (past_of e ∷ []) [])) (ne_eqb e.origin o q)
        none false = refl

    own : e.origin ≡ o → range_with_len 1 (min (at v o) (count_at o es)) ++ numbers_of o (map past_of (cond (is_inside v e) (e ∷ []) []))
        ≡ range_with_len 1 (min (at v o) (count_at o (e ∷ es)))
    own p = by (is_inside v e) refl
      where
        seq : e.seq ≡ suc (count_at o es)
        seq = n.0.seq ∙ ap (λ (i : ℕ). suc (count_at i es)) p

        more : count_at o (e ∷ es) ≡ suc (count_at o es)
        more = count_own e es o p

        by : (b : Bool) → is_inside v e ≡ b → range_with_len 1 (min (at v o) (count_at o es)) ++ numbers_of o (map past_of (cond b (e ∷ []) []))
            ≡ range_with_len 1 (min (at v o) (count_at o (e ∷ es)))
        by true h =
            let within : e.seq ≤ at v o = leb-true e.seq (at v o) (ap (λ (i : ℕ). has_number v i e.seq) (sym p) ∙ h) in
            ap (λ (c : Bool). range_with_len 1 (min (at v o) (count_at o es)) ++ map (λ (t : Past). t.seq) (cond c (past_of e ∷ []) [])) (eq-eqb e.origin o p)
            ∙ ap (λ (k : ℕ). range_with_len 1 k ++ e.seq ∷ []) (let m : min (at v o) (count_at o es) ≡ count_at o es = omega (arith, within, seq) in m)
            ∙ ap (λ (k : ℕ). range_with_len 1 (count_at o es) ++ k ∷ []) (let m : e.seq ≡ 1 + count_at o es = omega (arith, seq) in m)
            ∙ range_more 1 (count_at o es)
            ∙ ap (λ (k : ℕ). range_with_len 1 k) (let m : suc (count_at o es) ≡ min (at v o) (count_at o (e ∷ es)) = omega (arith, within, seq, more) in m)
        by false h =
            let above : at v o < e.seq = outside (ap (λ (i : ℕ). has_number v i e.seq) (sym p) ∙ h) in
            append-nil (range_with_len 1 (min (at v o) (count_at o es)))
            ∙ ap (λ (k : ℕ). range_with_len 1 k) (let m : min (at v o) (count_at o es) ≡ min (at v o) (count_at o (e ∷ es)) = omega (arith, above, seq, more) in m)
          where
            outside : nat_le e.seq (at v o) ≡ false → at v o < e.seq
            outside g = elim (cases_lt (at v o) e.seq) [ inl l ↦ l | inr m ↦ absurd (true≢false (sym (le-leb e.seq (at v o) m) ∙ g)) ]

-- a search among the site's own entries that are numbered so low finds none
none_above : (site n : ℕ) (es : List Entry) → Each (λ e. e.origin ≡ site → e.seq ≤ n) es
    → find (is_numbered_above n) (map past_of (filter (λ e. e.origin == site) es)) ≡ None
none_above site n [] h = refl
none_above site n (e ∷ es) h = by (e.origin == site) refl (none_above site n es h.1)
  where
    by : (b : Bool) → (e.origin == site) ≡ b
        → find (is_numbered_above n) (map past_of (filter (λ e. e.origin == site) es)) ≡ None
        → find (is_numbered_above n)
        (map past_of (cond b (e ∷ filter (λ e. e.origin == site) es) (filter (λ e. e.origin == site) es))) ≡ None
    by true g r = ap (λ (c : Bool). cond c (Some (past_of e)) (find (is_numbered_above n) (map past_of (filter (λ e. e.origin == site) es))))
        (le-ltb n e.seq (h.0 (eqb-true e.origin site g))) ∙ r
    by false g r = r

-- the site's own entries are of it, and numbered from 1 on
pub record IsEntry (site : ℕ) (t : Past) : Type 0 where
  pub origin : t.origin ≡ site
  pub counts : 1 ≤ t.seq

entries_own : (site : ℕ) (es : List Entry) → Each (λ e. 1 ≤ e.seq) es → Each (IsEntry site) (map past_of (filter (λ e. e.origin == site) es))
entries_own site [] h = tt
entries_own site (e ∷ es) h = by (e.origin == site) refl (entries_own site es h.1)
  where
    by : (b : Bool) → (e.origin == site) ≡ b → Each (IsEntry site) (map past_of (filter (λ e. e.origin == site) es))
        → Each (IsEntry site) (map past_of (cond b (e ∷ filter (λ e. e.origin == site) es) (filter (λ e. e.origin == site) es)))
    by true g r = (record { origin = eqb-true e.origin site g; counts = h.0 }, r)
    by false g r = r

-- the numbers of numbered entries begin with 1
pub seq_counts : (es : List Entry) → Numbered es → Each (λ e. 1 ≤ e.seq) es
seq_counts [] n = tt
seq_counts (e ∷ es) n = ((let m = n.0.seq in omega (arith, m)), seq_counts es n.1)

module _ (site : ℕ) (v : List ℕ) (es : List Entry) (n : Numbered es) (own : List Record) where
  -- a commit is lacking exactly where its number is above those inside
  found_above : Each (IsEntry site) (commits_of site own) → lacking site own (inside v es) ≡ find (is_numbered_above (min (at v site) (count_at site es))) (commits_of site own)
  found_above all =
      find_same (λ t. not (is_one_of (inside v es) t)) (is_numbered_above (min (at v site) (count_at site es))) (IsEntry site)
      (λ t o. one_of_range (inside v es) t (min (at v site) (count_at site es))
      (ap (λ (i : ℕ). numbers_of i (inside v es)) o.origin ∙ inside_numbers v es n site) o.counts)
      (commits_of site own) all

  -- where the commits are the site's entries, and these are inside, none is lacking
  pub completed_same : commits_of site own ≡ map past_of (filter (λ e. e.origin == site) (reverse es))
      → Each (λ e. e.origin ≡ site → e.seq ≤ min (at v site) (count_at site es)) es
      → completed site own (inside v es) ≡ inside v es
  completed_same commits low =
      let all = subst (λ (ts : List Past). Each (IsEntry site) ts) (sym commits) (entries_own site (reverse es) (each_reverse (λ e. 1 ≤ e.seq) es (seq_counts es n))) in
      ap (λ (o : Option Past). inside v es ++ option_to_list o)
      (found_above all
      ∙ ap (λ (ts : List Past). find (is_numbered_above (min (at v site) (count_at site es))) ts) commits
      ∙ none_above site (min (at v site) (count_at site es)) (reverse es)
      (each_reverse (λ e. e.origin ≡ site → e.seq ≤ min (at v site) (count_at site es)) es low))
      ∙ append-nil (inside v es)

  -- where they are these and a further one, that one is lacking
  pub completed_more : (e : Entry) → Numbered (e ∷ es) → e.origin ≡ site → is_inside v e ≡ true
      → commits_of site own ≡ map past_of (filter (λ e. e.origin == site) (reverse (e ∷ es)))
      → Each (λ e. e.origin ≡ site → e.seq ≤ min (at v site) (count_at site es)) es
      → completed site own (inside v es) ≡ inside v (e ∷ es)
  completed_more e m o within commits low =
      let all = subst (λ (ts : List Past). Each (IsEntry site) ts) (sym commits)
      (entries_own site (reverse (e ∷ es)) (each_reverse (λ e. 1 ≤ e.seq) (e ∷ es) (seq_counts (e ∷ es) m))) in
      let last : ℕ = min (at v site) (count_at site es) in
      let split : map past_of (filter (λ e. e.origin == site) (reverse (e ∷ es)))
      ≡ map past_of (filter (λ e. e.origin == site) (reverse es)) ++ past_of e ∷ [] =
      ap (λ (ds : List Entry). map past_of (filter (λ e. e.origin == site) ds)) (reverse-append (e ∷ []) es)
      ∙ ap (λ (ds : List Entry). map past_of ds) (filter-append (λ (e : Entry). e.origin == site) (reverse es) (e ∷ []))
      ∙ map-append past_of (filter (λ e. e.origin == site) (reverse es)) (cond (e.origin == site) (e ∷ []) [])
      ∙ ap (λ (b : Bool). map past_of (filter (λ e. e.origin == site) (reverse es)) ++ map past_of (cond b (e ∷ []) [])) (eq-eqb e.origin site o) in
      let number : e.seq ≡ suc (count_at site es) = m.0.seq ∙ ap (λ (i : ℕ). suc (count_at i es)) o in
      ap (λ (o : Option Past). inside v es ++ option_to_list o)
      (found_above all
      ∙ ap (λ (ts : List Past). find (is_numbered_above last) ts) (commits ∙ split)
      ∙ find-append (is_numbered_above last) (map past_of (filter (λ e. e.origin == site) (reverse es))) (past_of e ∷ [])
      ∙ ap (λ (o : Option Past). option_or o (find (is_numbered_above last) (past_of e ∷ [])))
      (none_above site last (reverse es) (each_reverse (λ e. e.origin ≡ site → e.seq ≤ last) es low))
      ∙ ap (λ (b : Bool). cond b (Some (past_of e)) None) (lt-ltb last e.seq (omega (arith, number))))
      ∙ sym (inside_more v e es ∙ ap (λ (b : Bool). inside v es ++ map past_of (cond b (e ∷ []) [])) within)

-- ---- what is inside a vector can be installed

may_more : (base xs : List Past) (t : Past) → may_install base xs ≡ true → fits (base ++ xs) t ≡ true → may_install base (xs ++ t ∷ []) ≡ true
may_more base [] t h f = and_from (fits base t) true (subst (λ (ts : List Past). fits ts t ≡ true) (append-nil base) f) refl
may_more base (x ∷ xs) t h f =
    let p = and_parts (fits base x) (may_install (base ++ x ∷ []) xs) h in
    and_from (fits base x) (may_install (base ++ x ∷ []) (xs ++ t ∷ [])) p.0
    (may_more (base ++ x ∷ []) xs t p.1 (subst (λ (ts : List Past). fits ts t ≡ true) (sym (append_assoc base (x ∷ []) xs)) f))

pub may_inside : (v : List ℕ) (es : List Entry) → Numbered es → Each Small es → may_install [] (inside v es) ≡ true
may_inside v [] n f = refl
may_inside v (e ∷ es) n f = subst (λ (ts : List Past). may_install [] ts ≡ true) (sym (inside_more v e es)) (by (is_inside v e) (may_inside v es n.1 f.1))
  where
    fitting : fits (inside v es) (past_of e) ≡ true
    fitting =
        and_from (nat_le (length e.writes) MAX_KEYS) _ (le-leb (length e.writes) MAX_KEYS f.0.few)
        (and_from (is_ascending (map (λ (p : Pair). p.key) e.writes)) (is_above (inside v es) e.origin e.seq) f.0.ascends
        (above_range (inside v es) e.origin e.seq (min (at v e.origin) (count_at e.origin es)) (inside_numbers v es n.1 e.origin)
        (let m = n.0.seq in omega (arith, m))))

    by : (b : Bool) → may_install [] (inside v es) ≡ true → may_install [] (inside v es ++ map past_of (cond b (e ∷ []) [])) ≡ true
    by true r = may_more [] (inside v es) (past_of e) r fitting
    by false r = subst (λ (ts : List Past). may_install [] ts ≡ true) (sym (append-nil (inside v es))) r
