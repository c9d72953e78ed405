-- When a site may start again.
use Rattle.std.proofs.Common.{ℕ, suc, ◌<◌, ◌≤◌, ◌≡◌, ◌≢◌, ◌==◌, ◌&&◌, Bool, true, false, not, cond, List, [], ◌∷◌, ◌++◌, Option, Some, None, length, refl}
use Rattle.std.proofs.Common.{sym, ap, ◌∙◌, subst, arith, inl, inr, le_trans}
use Rattle.std.proofs.Common.{unwrap_or}
use Rattle.std.proofs.lemmas.Bool.{cases_eq, eq-eqb, eqb-true, false≢true, and_from}
use Rattle.std.proofs.lemmas.List.{reverse-reverse}
use Rattle.std.specs.List.{AllByRecursion as Each, cons_option}
use Rattle.std.specs.Option.{option_or}
use Rattle.std.specs.Prelude.{is_none, reverse, option_map, option_to_list, filter_map}
use Rattle.dm_event.specs.Entries.{commit_vector}
use Rattle.dm_event.specs.Layout.{Layout, is_site}
use Rattle.dm_event.specs.Vectors.{at, is_at_most, join_all, raised, AtMost}
use Rattle.dm_event.specs.declared.step.Entry.{Entry}
use Rattle.dm_event.specs.declared.step.Found.{Found}
use Rattle.dm_event.specs.declared.step.Found.TheVariants.{Clean, Kept, Lost}
use Rattle.dm_event.specs.declared.step.Pending.{Pending}
use Rattle.dm_event.specs.declared.step.Pending.TheVariants as pending
use Rattle.dm_event.specs.declared.step.Step.{Step}
use Rattle.dm_event.specs.declared.step.Step.TheVariants.{Commit, Refresh, Grant, Release, Doubt, Restart}
use Rattle.dm_event.specs.declared.why.Why.TheVariants as why
use Rattle.dm_model.proofs.ClausesHold.{holds_none}
use Rattle.dm_model.proofs.FloorsClosed.{floor_closed, joined}
use Rattle.dm_model.proofs.LegalSteps.{InRange, in_range, doubted_grant}
use Rattle.dm_model.proofs.ListFacts.{each_reverse}
use Rattle.dm_model.proofs.MastershipSound.{floor_at, mastered_past}
use Rattle.dm_model.proofs.Numbering.{Numbered, ClosedBy, count_at}
use Rattle.dm_model.proofs.NumbersKept.{InDoubt}
use Rattle.dm_model.proofs.NumbersSound.{counts, sound_past}
use Rattle.dm_model.proofs.StepTests.{ran}
use Rattle.dm_model.proofs.VectorFacts.{at_by_below, at_most, at_raised_own, at_raised_other, join_has, join_keeps, join_least, long_by, long_raised}
use Rattle.dm_model.specs.Acts.{acts, entries, entry_of}
use Rattle.dm_model.specs.Allowed.{Allowed, with_kept}
use Rattle.dm_model.specs.Closed.{Closed, is_inside, unclosed}
use Rattle.dm_model.specs.Doubts.{is_down, pending_at, step_of, down_after}
use Rattle.dm_model.specs.Floors.{floor, floor_vector, floor_vectors}
use Rattle.dm_model.specs.Legal.{LegalPast}
use Rattle.dm_model.specs.Progress.{entry_count, reached, refreshed, site_vector, is_restart}
use Rattle.dm_model.specs.Rows.{found_fits}
use Rattle.dm_model.specs.Words.{latest}
use Rattle.dm_next.proofs.Growing.{no_fewer}
use Rattle.dm_next.proofs.HandOvers.{closed_past}
use Rattle.dm_next.proofs.Reading.{within_vector}
use Rattle.dm_next.proofs.Routed.{none_above}
use Rattle.dm_next.proofs.Running.{may_come}
use Rattle.dm_next.specs.Restarts.{StartsAt}
use Rattle.dm_steps.proofs.KeptFloors.{kept_floor_closed}
use Rattle.dm_steps.proofs.Sites.{refreshed_next}
use Rattle.dm_steps.specs.Next.{next_refreshed}

-- ---- at a vector

none_found : (v : List ℕ) (es : List Entry) → Each (λ e. is_inside v e ≡ true → AtMost e.begin v) es → unclosed v es ≡ None
none_found v [] h = refl
none_found v (e ∷ es) h = by (is_inside v e) refl (none_found v es h.1)
  where
    by : (b : Bool) → is_inside v e ≡ b → unclosed v es ≡ None → cond (b && not (is_at_most e.begin v)) (Some e) (unclosed v es) ≡ None
    by false f r = r
    by true f r = ap (λ (o : Option ℕ). cond (not (is_none o)) (Some e) (unclosed v es)) (none_above e.begin v (h.0 f)) ∙ r

-- no entry is found for which a closed vector isn't closed
pub none_unclosed : (past : List Step) (v : List ℕ) → Closed v past → unclosed v (reverse (entries past)) ≡ None
none_unclosed past v c =
    none_found v (reverse (entries past))
    (each_reverse (λ e. is_inside v e ≡ true → AtMost e.begin v) (reverse (entries past))
    (subst (λ l. Each (λ e. is_inside v e ≡ true → AtMost e.begin v) l) (sym (reverse-reverse (entries past))) c.begun))

pub may_restart : (layout : Layout) (past : List Step) (site : ℕ) (found : Found) (vector : List ℕ) → is_site layout site ≡ true
    → found_fits found (is_down site past) ≡ true → StartsAt layout past site found vector
    → Allowed layout past (Restart site vector found)
may_restart layout past site found vector there fits s =
    may_come layout past (Restart site vector found) (and_from _ _ there (eq-eqb (length vector) layout.sites s.long)) (
      holds_none _ _ fits,
      (
        holds_none _ _ (eq-eqb (at vector site) (entry_count site kept) s.own),
        (
          ap (λ (o : Option ℕ). option_map why.Behind o) (none_above (floor layout.sites kept site) vector s.not_behind),
          (
            ap (λ (o : Option ℕ). option_map why.Ahead o) (none_above vector (raised had site (entry_count site kept)) below),
            (
              ap (λ (o : Option Entry). option_map (λ (entry : ℕ × ℕ). why.NotClosed entry.0 entry.1) (option_map (λ e. (e.origin, e.seq)) o))
                  (none_unclosed kept vector s.closed),
              tt,
            ),
          ),
        ),
      ),
    )
  where
    kept : List Step
    kept = with_kept site found past

    had : List ℕ
    had = site_vector layout.sites past site

    range : InRange layout site
    range = in_range layout site there

    below : AtMost vector (raised had site (entry_count site kept))
    below j = elim (cases_eq j site) [
      | inl p ↦ subst (λ (k : ℕ). at vector k ≤ at (raised had site (entry_count site kept)) k) (sym p)
          (let a = at_raised_own had site (entry_count site kept) range.one (let t = range.top in let g = long_by layout.sites (λ k. reached site k past) in
          omega (arith, t, g)) in let b = s.own in omega (arith, a, b))
      | inr m ↦ (let a = at_raised_other had site (entry_count site kept) j range.one m in let b = s.not_ahead j m in omega (arith, a, b))
    ]

-- ---- a site that is down has what a grant in doubt needs

more_refreshed : (i j : ℕ) (s : Step) (n : ℕ) → is_restart i s ≡ false → n ≤ next_refreshed i j s n
more_refreshed i j (Restart site vector found) n r = by (site == i) r
  where
    by : (b : Bool) → b ≡ false → n ≤ cond b (at vector j) n
    by true e = absurd (false≢true (sym e))
    by false e = omega arith
more_refreshed i j (Refresh site origin) n r = by ((site == i) && (origin == j))
  where
    by : (b : Bool) → n ≤ cond b (suc n) n
    by true = omega arith
    by false = omega arith
more_refreshed i j other n r = omega arith

more_reached : (i j : ℕ) (past : List Step) (s : Step) → is_restart i s ≡ false → reached i j past ≤ reached i j (s ∷ past)
more_reached i j past s r = by (i == j)
  where
    by : (b : Bool) → cond b (entry_count i past) (refreshed i j past) ≤ cond b (entry_count i (s ∷ past)) (refreshed i j (s ∷ past))
    by true = no_fewer i past s
    by false = (let a = refreshed_next i j past s in let b = more_refreshed i j s (refreshed i j past) r in omega (arith, a, b))

abbrev GrantWithin : (ℕ → ℕ) → Option Pending → Type 0
GrantWithin had (Some (pending.Grant part epoch v)) = (j : ℕ) → at v j ≤ had j
GrantWithin had (Some (pending.Commit e)) = Unit {0}
GrantWithin had (Some (pending.Release part epoch to v)) = Unit {0}
GrantWithin had None = Unit {0}

abbrev GrantsWithin : List Step → Type 0
GrantsWithin past = (i : ℕ) → is_down i past ≡ true → GrantWithin (λ j. reached i j past) (pending_at i past)

grant_wider : (f g : ℕ → ℕ) (o : Option Pending) → ((j : ℕ) → f j ≤ g j) → GrantWithin f o → GrantWithin g o
grant_wider f g (Some (pending.Grant part epoch v)) le h = λ j. le_trans (h j) (le j)
grant_wider f g (Some (pending.Commit e)) le h = tt
grant_wider f g (Some (pending.Release part epoch to v)) le h = tt
grant_wider f g None le h = tt

doubt_within : (layout : Layout) (past : List Step) (site : ℕ) (p : Pending) → Allowed layout past (Doubt site p)
    → GrantWithin (λ j. reached site j past) (Some p)
doubt_within layout past site (pending.Grant part epoch v) h =
    let legal = doubted_grant layout past site part epoch v h in
    λ j. le_trans (at_most layout.sites v (site_vector layout.sites past site) legal.long legal.not_ahead j)
    (at_by_below layout.sites (λ k. reached site k past) j)
doubt_within layout past site (pending.Commit e) h = tt
doubt_within layout past site (pending.Release part epoch to v) h = tt

grants_step : (layout : Layout) (past : List Step) (s : Step) → Allowed layout past s → GrantsWithin past → GrantsWithin (s ∷ past)
grants_step layout past (Doubt site p) a g i d =
    grant_wider (λ j. reached i j past) (λ j. reached i j (Doubt site p ∷ past)) _ (λ j. more_reached i j past (Doubt site p) refl) (by (site == i) refl d)
  where
    by : (b : Bool) → (site == i) ≡ b → unwrap_or (option_or (cond b (Some true) None) (latest (down_after i) past)) false ≡ true
        → GrantWithin (λ j. reached i j past) (option_or (cond b (Some p) None) (pending_at i past))
    by true e q = subst (λ (k : ℕ). GrantWithin (λ j. reached k j past) (Some p)) (eqb-true site i e) (doubt_within layout past site p a)
    by false e q = g i q
grants_step layout past (Restart site vector found) a g i d =
    elim (ran (site == i) false (latest (down_after i) past) d) [
      | inl q ↦ absurd (false≢true q.now)
      | inr q ↦ grant_wider (λ j. reached i j past) (λ j. reached i j (Restart site vector found ∷ past)) (pending_at i past)
          (λ j. more_reached i j past (Restart site vector found) q.test) (g i q.before)
    ]
grants_step layout past other a g i d =
    grant_wider (λ j. reached i j past) (λ j. reached i j (other ∷ past)) (pending_at i past) (λ j. more_reached i j past other refl) (g i d)

grants_within : (layout : Layout) (past : List Step) → LegalPast layout past → GrantsWithin past
grants_within layout [] l = λ i d. absurd (false≢true d)
grants_within layout (s ∷ past) l = grants_step layout past s l.1 (grants_within layout past l.0)

-- ---- the floor

-- has all of the site's own entries
own_floor : (count i : ℕ) (ds : List Step) → 1 ≤ i → i ≤ count → Numbered (filter_map entry_of ds) → Each (λ e. length e.begin ≡ count) (filter_map entry_of ds)
    → count_at i (filter_map entry_of ds) ≤ joined count i ds i
own_floor count i [] one top n l = omega arith
own_floor count i (Commit e ∷ ds) one top n l = by (e.origin == i) refl (own_floor count i ds one top n.1 l.1)
  where
    by : (b : Bool) → (e.origin == i) ≡ b → count_at i (filter_map entry_of ds) ≤ joined count i ds i
        → cond b (suc (count_at i (filter_map entry_of ds))) (count_at i (filter_map entry_of ds))
        ≤ at (join_all count (cons_option (cond b (Some (commit_vector e)) None) (filter_map (floor_vector i) ds))) i
    by true q rest =
        let same = eqb-true e.origin i q in
        let here = l.0 in
        let has = join_has count (commit_vector e) (filter_map (floor_vector i) ds) (long_raised e.begin e.origin e.seq ∙ l.0) i in
        let own : at (commit_vector e) i ≡ e.seq =
        ap (λ (k : ℕ). at (commit_vector e) k) (sym same) ∙ at_raised_own e.begin e.origin e.seq (omega (arith, one, same)) (omega (arith, top, same, here)) in
        let seq = n.0.seq in
        let c = ap (λ (k : ℕ). count_at k (filter_map entry_of ds)) same in
        omega (arith, has, own, seq, c)
    by false q rest = rest
own_floor count i (Grant site part epoch v ∷ ds) one top n l = by (site == i) (own_floor count i ds one top n l)
  where
    by : (b : Bool) → count_at i (filter_map entry_of ds) ≤ joined count i ds i
        → count_at i (filter_map entry_of ds) ≤ at (join_all count (cons_option (cond b (Some v) None) (filter_map (floor_vector i) ds))) i
    by true rest = le_trans rest (join_keeps count v (filter_map (floor_vector i) ds) i)
    by false rest = rest
own_floor count i (s ∷ ds) one top n l = own_floor count i ds one top n l

module _ (layout : Layout) (past : List Step) (l : LegalPast layout past) (site : ℕ) (there : is_site layout site ≡ true) where
  site_range : InRange layout site
  site_range = in_range layout site there

  -- a vector that is within what the site has
  had_by : (v : List ℕ) → length v ≡ layout.sites → ((j : ℕ) → at v j ≤ reached site j past) → AtMost v (site_vector layout.sites past site)
  had_by v long h = within_vector layout.sites (λ j. reached site j past) v long h

  floor_had : (j : ℕ) → floor_at layout past site j ≤ at (site_vector layout.sites past site) j
  floor_had j = had_by (floor layout.sites past site) (long_by layout.sites _) (λ k. (mastered_past layout past l).floored site k) j

  own_had : (kept : List Step) → ClosedBy (entries kept) (floor_at layout kept site) → Numbered (entries kept)
      → Each (λ e. length e.begin ≡ layout.sites) (entries kept)
      → floor_at layout kept site site ≡ entry_count site kept
  own_had kept c n sized =
      let a = own_floor layout.sites site (acts kept) site_range.one site_range.top n sized in
      let b = c.within site in
      omega (arith, a, b)

  record AtFloor (kept : List Step) : Type 0 where
    pub own : floor_at layout kept site site ≡ entry_count site kept
    pub not_ahead : (j : ℕ) → j ≢ site → floor_at layout kept site j ≤ at (site_vector layout.sites past site) j
    pub closed : Closed (floor layout.sites kept site) kept

  at_floor : AtFloor past
  at_floor = record {
    own = own_had past (floor_closed layout past l site) (sound_past layout past l).numbered (sound_past layout past l).sized;
    not_ahead = λ j m. floor_had j;
    closed = closed_past past (floor layout.sites past site) (floor_closed layout past l site);
  }

  -- with a pending step that is kept
  at_kept_floor : is_down site past ≡ true → (p : Pending) → pending_at site past ≡ Some p → AtFloor (step_of site p ∷ past)
  at_kept_floor down p e =
      by p (kept_floor_closed layout past l site down p e)
      (subst (λ (o : Option Pending). InDoubt layout.sites (counts past) site o) e ((sound_past layout past l).in_doubt site down))
      (subst (λ (o : Option Pending). GrantWithin (λ j. reached site j past) o) e (grants_within layout past l site down))
    where
      one_more : (b : Bool) (v : List ℕ) (j : ℕ) → at v j ≤ at (site_vector layout.sites past site) j
          → at (join_all layout.sites (cons_option (cond b (Some v) None) (floor_vectors site past))) j ≤ at (site_vector layout.sites past site) j
      one_more true v j le = join_least layout.sites v (floor_vectors site past) (at (site_vector layout.sites past site) j) j le (floor_had j)
      one_more false v j le = floor_had j

      by : (p : Pending) → ClosedBy (entries (step_of site p ∷ past)) (floor_at layout (step_of site p ∷ past) site)
          → InDoubt layout.sites (counts past) site (Some p) → GrantWithin (λ j. reached site j past) (Some p) → AtFloor (step_of site p ∷ past)
      by (pending.Release part epoch to v) c d g = record {
        own = own_had (Release site part epoch to v ∷ past) c (sound_past layout past l).numbered (sound_past layout past l).sized;
        not_ahead = λ j m. floor_had j;
        closed = closed_past (Release site part epoch to v ∷ past) (floor layout.sites (Release site part epoch to v ∷ past) site) c;
      }
      by (pending.Grant part epoch v) c d g = record {
        own = own_had (Grant site part epoch v ∷ past) c (sound_past layout past l).numbered (sound_past layout past l).sized;
        not_ahead = λ j m. one_more (site == site) v j (had_by v d g j);
        closed = closed_past (Grant site part epoch v ∷ past) (floor layout.sites (Grant site part epoch v ∷ past) site) c;
      }
      by (pending.Commit e) c d g =
          let s = sound_past layout past l in
          let begins = d.within.below in
          let seq : e.seq ≡ suc (count_at e.origin (entries past)) = d.seq ∙ ap (λ (k : ℕ). suc (count_at k (entries past))) (sym d.own) in
          let before : at e.begin e.origin < e.seq =
          (let x = begins e.origin in let y = ap (λ (k : ℕ). reached site k past) d.own in let o = s.own site in let f = d.seq in omega (arith, x, y, o, f)) in
          let here = d.within.long in
          record {
            own = own_had (Commit e ∷ past) c (record { seq = seq; before = before }, s.numbered) (here, s.sized);
            not_ahead = λ j m. one_more (e.origin == site) (commit_vector e) j
                (let one = site_range.one in let o = d.own in
                let x = at_raised_other e.begin e.origin e.seq j (omega (arith, one, o)) (λ q. m (q ∙ o)) in
                let y = had_by e.begin here begins j in omega (arith, x, y));
            closed = closed_past (Commit e ∷ past) (floor layout.sites (Commit e ∷ past) site) c;
          }

  starts_by : (found : Found) → AtFloor (with_kept site found past) → StartsAt layout past site found (floor layout.sites (with_kept site found past) site)
  starts_by found f = record {
    long = long_by layout.sites _;
    own = f.own;
    not_behind = λ j. omega arith;
    not_ahead = f.not_ahead;
    closed = f.closed;
  }

  -- a site may start again at its floor, with a kept step counted, wherever its log is found so
  pub starts_at_floor : (found : Found) → found_fits found (is_down site past) ≡ true
      → StartsAt layout past site found (floor layout.sites (with_kept site found past) site)
  starts_at_floor Clean f = starts_by Clean at_floor
  starts_at_floor Lost f = starts_by Lost at_floor
  starts_at_floor Kept f = starts_by Kept (by (pending_at site past) refl)
    where
      by : (o : Option Pending) → pending_at site past ≡ o → AtFloor (option_to_list (option_map (step_of site) o) ++ past)
      by None e = at_floor
      by (Some p) e = at_kept_floor f p e

  pub may_restart_at_floor : (found : Found) → found_fits found (is_down site past) ≡ true
      → Allowed layout past (Restart site (floor layout.sites (with_kept site found past) site) found)
  may_restart_at_floor found f =
      may_restart layout past site found (floor layout.sites (with_kept site found past) site) there f (starts_at_floor found f)

  -- up or down
  pub may_restart_clean : is_down site past ≡ false → Allowed layout past (Restart site (floor layout.sites past site) Clean)
  may_restart_clean up = may_restart_at_floor Clean (ap (λ (b : Bool). not b) up)

  pub may_restart_kept : is_down site past ≡ true → Allowed layout past (Restart site (floor layout.sites (with_kept site Kept past) site) Kept)
  may_restart_kept down = may_restart_at_floor Kept down

  pub may_restart_lost : is_down site past ≡ true → Allowed layout past (Restart site (floor layout.sites past site) Lost)
  may_restart_lost down = may_restart_at_floor Lost down
