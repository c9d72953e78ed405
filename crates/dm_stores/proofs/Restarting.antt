-- A site starts again.
use Rattle.std.proofs.Common.{ℕ, min, ◌≤◌, ◌≡◌, ◌==◌, Bool, true, false, cond, List, [], ◌∷◌, ◌++◌, Option, Some, None, map, filter, refl, sym, ap, ◌∙◌, subst}
use Rattle.std.proofs.Common.{arith, inl, inr}
use Rattle.std.proofs.lemmas.Bool.{cases_eq, eq-eqb, ne_eqb, cond-true, cond-false, leb-true, le-leb}
use Rattle.std.specs.List.{AllByRecursion as Each}
use Rattle.std.specs.Prelude.{reverse, filter_map, option_map, option_to_list}
use Rattle.dm_event.specs.Layout.{Layout}
use Rattle.dm_event.specs.Vectors.{at}
use Rattle.dm_event.specs.declared.step.Entry.{Entry}
use Rattle.dm_event.specs.declared.step.Found.{Found}
use Rattle.dm_event.specs.declared.step.Found.TheVariants.{Clean, Kept, Lost}
use Rattle.dm_event.specs.declared.step.Pending.{Pending}
use Rattle.dm_event.specs.declared.step.Pending.TheVariants as pending
use Rattle.dm_event.specs.declared.step.Step.{Step}
use Rattle.dm_event.specs.declared.step.Step.TheVariants.{Commit, Release, Grant, Restart}
use Rattle.dm_model.proofs.LegalSteps.{legal_restart}
use Rattle.dm_model.proofs.ListFacts.{each_map}
use Rattle.dm_model.proofs.Numbering.{Numbered, count_at, count_own, within_count}
use Rattle.dm_model.proofs.NumbersKept.{InDoubt}
use Rattle.dm_model.proofs.NumbersSound.{counts, sound_past}
use Rattle.dm_model.specs.Acts.{acts, entries, entry_of}
use Rattle.dm_model.specs.Allowed.{Allowed, with_kept}
use Rattle.dm_model.specs.Closed.{is_inside}
use Rattle.dm_model.specs.Doubts.{is_down, pending_at, step_of}
use Rattle.dm_model.specs.Legal.{LegalPast}
use Rattle.dm_model.specs.Progress.{reached, refreshed, site_vector}
use Rattle.dm_model.specs.Rows.{found_fits}
use Rattle.dm_restart.proofs.Insides.{inside, completed_same, completed_more}
use Rattle.dm_restart.proofs.Recorded.{commits_recorded}
use Rattle.dm_restart.specs.Histories.{logged}
use Rattle.dm_restart.specs.Plans.{completed}
use Rattle.dm_steps.proofs.Components.{vector_is}
use Rattle.dm_store.specs.Histories.{past_of, committed_inside, writers}
use Rattle.dm_store.specs.declared.past.Past.{Past}
use Rattle.dm_stores.specs.Stores.{Stores}

-- the entries are those with the kept one
pub restart_entries : (past : List Step) (i : ℕ) (v : List ℕ) (found : Found) → entries (Restart i v found ∷ past) ≡ entries (with_kept i found past)
restart_entries past i v Clean = refl
restart_entries past i v Lost = refl
restart_entries past i v Kept = by (pending_at i past)
  where
    by : (o : Option Pending) → filter_map entry_of (option_to_list (option_map (step_of i) o) ++ acts past)
        ≡ entries (option_to_list (option_map (step_of i) o) ++ past)
    by None = refl
    by (Some (pending.Commit e)) = refl
    by (Some (pending.Release part epoch to vector)) = refl
    by (Some (pending.Grant part epoch vector)) = refl

-- the site's vector is the Restart's
pub restart_vector : (layout : Layout) (past : List Step) (i : ℕ) (v : List ℕ) (found : Found) → Allowed layout past (Restart i v found)
    → site_vector layout.sites (Restart i v found ∷ past) i ≡ v
restart_vector layout past i v found h =
    let set = (legal_restart layout past i v found h).may_set in
    let counts = ap (λ (es : List Entry). count_at i es) (restart_entries past i v found) in
    sym (vector_is layout.sites v (λ j. reached i j (Restart i v found ∷ past)) set.long (λ j one top. elim (cases_eq j i) [
      | inl p ↦ (ap (λ (k : ℕ). at v k) p ∙ set.own ∙ sym counts ∙ sym (cond-true (i == j) _ _ (eq-eqb i j (sym p))))
      | inr n ↦ sym (cond-false (i == j) _ _ (ne_eqb i j (λ p. n (sym p))) ∙ refreshed_own j)
    ]))
  where
    refreshed_own : (j : ℕ) → refreshed i j (Restart i v found ∷ past) ≡ at v j
    refreshed_own j = rw (eq-eqb i i refl) (omega arith)

each_inside : (v : List ℕ) (es : List Entry) → Each (λ t. t.seq ≤ at v t.origin) (map past_of (filter (is_inside v) es))
each_inside v [] = tt
each_inside v (e ∷ es) = by (is_inside v e) refl (each_inside v es)
  where
    by : (b : Bool) → is_inside v e ≡ b → Each (λ t. t.seq ≤ at v t.origin) (map past_of (filter (is_inside v) es))
        → Each (λ t. t.seq ≤ at v t.origin) (map past_of (cond b (e ∷ filter (is_inside v) es) (filter (is_inside v) es)))
    by true h r = (leb-true e.seq (at v e.origin) h, r)
    by false h r = r

-- the log has the site's entries, and where it keeps a commit, that one too
module _ (layout : Layout) (past : List Step) (i : ℕ) (v : List ℕ) (found : Found) (l : LegalPast layout (Restart i v found ∷ past)) where
  -- the numbers of the site's entries are within the vector and the count
  own_low : (es : List Entry) → Numbered es → count_at i es ≤ at v i → Each (λ e. e.origin ≡ i → e.seq ≤ min (at v i) (count_at i es)) es
  own_low es n le =
      each_map (λ e. e.seq ≤ count_at e.origin es) (λ e. e.origin ≡ i → e.seq ≤ min (at v i) (count_at i es))
      (λ e w o. (let a = ap (λ (j : ℕ). count_at j es) o in omega (arith, w, a, le))) es (within_count es n)

  own_counts : (kept : List Step) → with_kept i found past ≡ kept → at v i ≡ count_at i (entries kept)
  own_counts kept same = (legal_restart layout past i v found l.1).may_set.own ∙ ap (λ (ss : List Step). count_at i (entries ss)) same

  numbered : (kept : List Step) → with_kept i found past ≡ kept → Numbered (entries kept)
  numbered kept same =
      subst Numbered (restart_entries past i v found ∙ ap (λ (ss : List Step). entries ss) same) (sound_past layout (Restart i v found ∷ past) l).numbered

  -- no entry comes
  none_more : (kept : List Step) → with_kept i found past ≡ kept → entries kept ≡ entries past
      → completed i (logged i Clean kept) (inside v (entries past)) ≡ inside v (entries kept)
  none_more kept same e =
      let n = numbered kept same in
      let own = own_counts kept same in
      ap (λ (es : List Entry). completed i (logged i Clean kept) (inside v es)) (sym e)
      ∙ completed_same i v (entries kept) n (logged i Clean kept) (commits_recorded i kept) (own_low (entries kept) n (omega (arith, own)))

  -- the commit in doubt comes
  one_more : (e : Entry) → e.origin ≡ i → with_kept i found past ≡ Commit e ∷ past
      → completed i (logged i Clean (Commit e ∷ past)) (inside v (entries past)) ≡ inside v (e ∷ entries past)
  one_more e o same =
      let n = numbered (Commit e ∷ past) same in
      let own = own_counts (Commit e ∷ past) same in
      let count = count_own e (entries past) i o in
      completed_more i v (entries past) n.1 (logged i Clean (Commit e ∷ past)) e n o
      (le-leb e.seq (at v e.origin) (let q = n.0.seq in let a = ap (λ (j : ℕ). at v j) o in let b = ap (λ (j : ℕ). count_at j (entries past)) o in
      omega (arith, q, a, b, own, count)))
      (commits_recorded i (Commit e ∷ past)) (own_low (entries past) n.1 (omega (arith, own, count)))

  completes : completed i (logged i found past) (inside v (entries past)) ≡ inside v (entries (with_kept i found past))
  completes = by_found found refl
    where
      by_found : (f : Found) → found ≡ f → completed i (logged i f past) (inside v (entries past)) ≡ inside v (entries (with_kept i f past))
      by_found Clean e = none_more past (ap (λ (f : Found). with_kept i f past) e) refl
      by_found Lost e = none_more past (ap (λ (f : Found). with_kept i f past) e) refl
      by_found Kept e = by (pending_at i past) refl
        where
          same : with_kept i found past ≡ with_kept i Kept past
          same = ap (λ (f : Found). with_kept i f past) e

          more : Option Pending → List Step
          more o = option_to_list (option_map (step_of i) o) ++ past

          by : (o : Option Pending) → pending_at i past ≡ o → completed i (logged i Clean (more o)) (inside v (entries past)) ≡ inside v (entries (more o))
          by None p = none_more past (same ∙ ap more p) refl
          by (Some (pending.Release part epoch to vector)) p = none_more (Release i part epoch to vector ∷ past) (same ∙ ap more p) refl
          by (Some (pending.Grant part epoch vector)) p = none_more (Grant i part epoch vector ∷ past) (same ∙ ap more p) refl
          by (Some (pending.Commit d)) p =
              let down = ap (λ (f : Found). found_fits f (is_down i past)) (sym e) ∙ (legal_restart layout past i v found l.1).fits in
              let doubt = subst (λ (o : Option Pending). InDoubt layout.sites (counts past) i o) p ((sound_past layout past l.0).in_doubt i down) in
              one_more d doubt.own (same ∙ ap more p)

-- the plan's store has what is inside the vector
pub stores_restart : (layout : Layout) (history : List Step) (i : ℕ) (v : List ℕ) (found : Found) → LegalPast layout (Restart i v found ∷ reverse history)
    → Stores layout (Restart i v found ∷ reverse history) i (completed i (logged i found (reverse history)) (committed_inside history v))
stores_restart layout history i v found l =
    let es = entries (Restart i v found ∷ reverse history) in
    let u = restart_vector layout (reverse history) i v found l.1 in
    let same : completed i (logged i found (reverse history)) (committed_inside history v) ≡ inside v es =
    completes layout (reverse history) i v found l ∙ ap (λ (ds : List Entry). inside v ds) (sym (restart_entries (reverse history) i v found)) in
    subst (λ (ts : List Past). Stores layout (Restart i v found ∷ reverse history) i ts) (sym same) (record {
      has = λ key. ap (λ (w : List ℕ). writers key (inside w es)) (sym u);
      within = subst (λ (w : List ℕ). Each (λ t. t.seq ≤ at w t.origin) (inside v es)) (sym u) (each_inside v (reverse es));
    })
