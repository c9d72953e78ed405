-- What a site may not lose is closed also where the step that it has in doubt is counted.
use Rattle.std.proofs.Common.{ℕ, suc, ◌<◌, ◌≤◌, ◌≡◌, ◌==◌, ◌&&◌, Bool, true, false, not, cond, if◌then◌else◌, List, [], ◌∷◌, ◌++◌, Option, Some, None, length}
use Rattle.std.proofs.Common.{refl, sym, ap, ◌∙◌, subst, arith, inl, inr, le_trans, nat_lt}
use Rattle.std.proofs.lemmas.Bool.{cases_eq, and_parts, leb-true, le-ltb}
use Rattle.std.proofs.lemmas.List.{reverse-reverse}
use Rattle.std.specs.List.{AllByRecursion as Each, cons_option}
use Rattle.std.specs.Prelude.{IfSome, is_none, reverse, option_to_list, option_map}
use Rattle.dm_event.proofs.Sites.{find_nothing}
use Rattle.dm_event.specs.Entries.{commit_vector}
use Rattle.dm_event.specs.Layout.{Layout, is_site}
use Rattle.dm_event.specs.Vectors.{at, is_at_most, join_all}
use Rattle.dm_event.specs.declared.step.Entry.{Entry}
use Rattle.dm_event.specs.declared.step.Found.{Found}
use Rattle.dm_event.specs.declared.step.Found.TheVariants.{Clean, Kept, Lost}
use Rattle.dm_event.specs.declared.step.Pending.{Pending}
use Rattle.dm_event.specs.declared.step.Pending.TheVariants as pending
use Rattle.dm_event.specs.declared.step.Step.{Step}
use Rattle.dm_event.specs.declared.step.Step.TheVariants.{Commit, Release, Grant, Doubt}
use Rattle.dm_model.proofs.FloorsClosed.{ActClosed, DoubtClosed, act_more, acts_closed, firm_past, floor_closed, joined}
use Rattle.dm_model.proofs.LaggingRefresh.{grounded_past}
use Rattle.dm_model.proofs.LegalSteps.{InRange, in_range}
use Rattle.dm_model.proofs.ListFacts.{each_map, each_reverse}
use Rattle.dm_model.proofs.MastershipSound.{floor_at, mastered_past}
use Rattle.dm_model.proofs.Numbering.{ClosedBy, Numbered, closed_more, count_at, count_more, count_own}
use Rattle.dm_model.proofs.NumbersKept.{InDoubt}
use Rattle.dm_model.proofs.NumbersSound.{counts, sound_past}
use Rattle.dm_model.proofs.VectorFacts.{at_raised_other, at_raised_own, join_least}
use Rattle.dm_model.specs.Acts.{acts, entries}
use Rattle.dm_model.specs.Allowed.{with_kept}
use Rattle.dm_model.specs.Closed.{is_inside, unclosed}
use Rattle.dm_model.specs.Doubts.{is_down, pending_at, step_of}
use Rattle.dm_model.specs.Floors.{floor, floor_vectors}
use Rattle.dm_model.specs.Legal.{LegalPast}
use Rattle.dm_model.specs.Progress.{reached}
use Rattle.dm_model.specs.Rows.{found_fits}
use Rattle.dm_model.specs.Shape.{is_shaped}
use Rattle.dm_steps.proofs.Legality.{pending_shaped}

by_cons : (b : Bool) (x : List ℕ) (vs : List (List ℕ)) (P : List (List ℕ) → Type 0) → P (x ∷ vs) → P vs → P (cons_option (if b then Some x else None) vs)
by_cons true x vs P f g = f
by_cons false x vs P f g = g

-- the commit vector is within the counts
new_vector : (layout : Layout) (past : List Step) (e : Entry) (i j : ℕ) → e.origin ≡ i → e.seq ≡ suc (count_at e.origin (entries past)) → InRange layout i
    → length e.begin ≡ layout.sites → ((k : ℕ) → at e.begin k ≤ reached i k past) → ((k : ℕ) → reached i k past ≤ count_at k (entries past))
    → at (commit_vector e) j ≤ count_at j (e ∷ entries past)
new_vector layout past e i j o seq range long begins counted =
    let one = range.one in
    let top = range.top in
    elim (cases_eq j e.origin) [
      | inl p ↦ subst (λ (x : ℕ). at (commit_vector e) x ≤ count_at x (e ∷ entries past)) (sym p)
          (let a = at_raised_own e.begin e.origin e.seq (omega (arith, one, o)) (omega (arith, o, top, long)) in
          let b = count_own e (entries past) e.origin refl in omega (arith, a, b, seq))
      | inr q ↦ (let a = at_raised_other e.begin e.origin e.seq j (omega (arith, one, o)) q in
          let b = begins j in let c = counted j in let d = count_more e (entries past) j in omega (arith, a, b, c, d))
    ]

module _ (layout : Layout) (past : List Step) (h : LegalPast layout past) (i : ℕ) (down : is_down i past ≡ true) where
  old_floor : (j : ℕ) → joined layout.sites i (acts past) j ≤ count_at j (entries past)
  old_floor j = le_trans ((mastered_past layout past h).floored i j) (((sound_past layout past h).closed i).within j)

  -- the floor with one vector more is within the counts
  more_floor : (b : Bool) (v : List ℕ) (j n : ℕ) → at v j ≤ n → count_at j (entries past) ≤ n
      → at (join_all layout.sites (cons_option (if b then Some v else None) (floor_vectors i past))) j ≤ n
  more_floor b v j n x y =
      by_cons b v (floor_vectors i past) (λ vs. at (join_all layout.sites vs) j ≤ n)
      (join_least layout.sites v (floor_vectors i past) n j x (le_trans (old_floor j) y)) (le_trans (old_floor j) y)

  counted : (p : Pending) → is_shaped layout (Doubt i p) ≡ true → InDoubt layout.sites (counts past) i (Some p) → DoubtClosed (entries past) (Some p)
      → ClosedBy (entries (step_of i p ∷ past)) (joined layout.sites i (acts (step_of i p ∷ past)))
  counted (pending.Release part epoch to v) s d c =
      let n = sound_past layout past h in
      acts_closed layout (Release i part epoch to v ∷ acts past) i n.numbered (grounded_past layout past h) n.sized
      (tt, (firm_past layout past h).acts) old_floor
  counted (pending.Grant part epoch v) s d c =
      let n = sound_past layout past h in
      acts_closed layout (Grant i part epoch v ∷ acts past) i n.numbered (grounded_past layout past h) n.sized
      (record { long = d; closed = c }, (firm_past layout past h).acts) (λ j. more_floor (i == i) v j (count_at j (entries past)) (c.within j) (omega arith))
  counted (pending.Commit e) s d c =
      let n = sound_past layout past h in
      let range = in_range layout i (and_parts (is_site layout i) _ s).0 in
      let begins = d.within.below in
      let seq : e.seq ≡ suc (count_at e.origin (entries past)) = d.seq ∙ ap (λ (k : ℕ). suc (count_at k (entries past))) (sym d.own) in
      let before : at e.begin e.origin < e.seq =
      (let a = begins e.origin in let b = ap (λ (k : ℕ). reached i k past) d.own in let o = n.own i in let f = d.seq in omega (arith, a, b, o, f)) in
      let numbered : Numbered (e ∷ entries past) = (record { seq = seq; before = before }, n.numbered) in
      acts_closed layout (Commit e ∷ acts past) i numbered (
        record { site = subst (λ (x : ℕ). InRange layout x) (sym d.own) range; below = λ j. le_trans (begins j) ((n.closed i).within j) },
        grounded_past layout past h,
      )
      (d.within.long, n.sized) (
        closed_more e (entries past) (at e.begin) numbered c,
        each_map (ActClosed layout.sites (entries past)) (ActClosed layout.sites (e ∷ entries past))
            (λ a k. act_more layout.sites e (entries past) numbered a k) (acts past) (firm_past layout past h).acts,
      )
      (λ j. more_floor (e.origin == i) (commit_vector e) j (count_at j (e ∷ entries past))
      (new_vector layout past e i j d.own seq range d.within.long begins (n.closed i).within) (count_more e (entries past) j))

  pub kept_floor_closed : (p : Pending) → pending_at i past ≡ Some p → ClosedBy (entries (step_of i p ∷ past)) (floor_at layout (step_of i p ∷ past) i)
  kept_floor_closed p e =
      counted p (subst (λ (o : Option Pending). IfSome o (λ q. is_shaped layout (Doubt i q) ≡ true)) e (pending_shaped layout i past h))
      (subst (λ (o : Option Pending). InDoubt layout.sites (counts past) i o) e ((sound_past layout past h).in_doubt i down))
      (subst (λ (o : Option Pending). DoubtClosed (entries past) o) e ((firm_past layout past h).held i down))

-- ---- no entry is found for which a floor isn't closed

at_most_is : (u v : List ℕ) → ((j : ℕ) → at u j ≤ at v j) → is_at_most u v ≡ true
at_most_is u v h =
    ap (λ (o : Option ℕ). is_none o)
    (find_nothing (λ site. nat_lt (at v site) (at u site)) 1 (length u) (λ j a b. le-ltb (at v j) (at u j) (h j)))

none_found : (v : List ℕ) (es : List Entry) → Each (λ e. e.seq ≤ at v e.origin → (j : ℕ) → at e.begin j ≤ at v j) es → unclosed v es ≡ None
none_found v [] h = refl
none_found v (e ∷ es) h = by (is_inside v e) refl (none_found v es h.1)
  where
    by : (b : Bool) → is_inside v e ≡ b → unclosed v es ≡ None → cond (b && not (is_at_most e.begin v)) (Some e) (unclosed v es) ≡ None
    by false f r = r
    by true f r = ap (λ (x : Bool). cond (not x) (Some e) (unclosed v es)) (at_most_is e.begin v (h.0 (leb-true e.seq (at v e.origin) f))) ∙ r

turned : {X : Type 0} (P : X → Type 0) (xs : List X) → Each P xs → Each P (reverse xs)
turned P xs h = each_reverse P (reverse xs) (subst (λ l. Each P l) (sym (reverse-reverse xs)) h)

closed_none : (layout : Layout) (past : List Step) (i : ℕ) → ClosedBy (entries past) (floor_at layout past i)
    → unclosed (floor layout.sites past i) (reverse (entries past)) ≡ None
closed_none layout past i c = none_found (floor layout.sites past i) (reverse (entries past)) (turned _ (entries past) c.begun)

-- at the floor, with a kept step counted, wherever a Restart may find the log so
pub none_at_floor : (layout : Layout) (past : List Step) → LegalPast layout past → (i : ℕ) (found : Found) → found_fits found (is_down i past) ≡ true
    → unclosed (floor layout.sites (with_kept i found past) i) (reverse (entries (with_kept i found past))) ≡ None
none_at_floor layout past h i Clean f = closed_none layout past i (floor_closed layout past h i)
none_at_floor layout past h i Lost f = closed_none layout past i (floor_closed layout past h i)
none_at_floor layout past h i Kept f = by (pending_at i past) refl
  where
    by : (o : Option Pending) → pending_at i past ≡ o
        → unclosed (floor layout.sites (option_to_list (option_map (step_of i) o) ++ past) i)
        (reverse (entries (option_to_list (option_map (step_of i) o) ++ past))) ≡ None
    by None e = closed_none layout past i (floor_closed layout past h i)
    by (Some p) e = closed_none layout (step_of i p ∷ past) i (kept_floor_closed layout past h i f p e)
