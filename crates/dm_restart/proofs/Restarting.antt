-- What a site restarts with, in every legal history.
use Rattle.std.proofs.Common.{ℕ, suc, ◌<◌, ◌≤◌, ◌≡◌, List, [], ◌∷◌, ◌++◌, length, refl, ap, sym, ◌∙◌, subst, arith, Bool, true, false, ◌==◌, if◌then◌else◌, le_trans, min}
use Rattle.std.proofs.Common.{Option, Some, None}
use Rattle.std.proofs.lemmas.Bool.{eqb-false, le-leb}
use Rattle.std.proofs.lemmas.List.{reverse-reverse}
use Rattle.std.specs.List.{AllByRecursion as Each, cons_option, range_with_len}
use Rattle.std.specs.Prelude.{reverse, filter_map, option_map, option_to_list}
use Rattle.dm_event.specs.Entries.{commit_vector}
use Rattle.dm_event.specs.Layout.{Layout, is_site}
use Rattle.dm_event.specs.Vectors.{at, join_all, AtMost}
use Rattle.dm_event.specs.declared.step.Entry.{Entry}
use Rattle.dm_event.specs.declared.step.Found.{Found}
use Rattle.dm_event.specs.declared.step.Found.TheVariants.{Clean, Kept, Lost}
use Rattle.dm_event.specs.declared.step.Pending.{Pending}
use Rattle.dm_event.specs.declared.step.Pending.TheVariants as pending
use Rattle.dm_event.specs.declared.step.Step.{Step}
use Rattle.dm_event.specs.declared.step.Step.TheVariants.{Commit, Release, Grant}
use Rattle.dm_frames.specs.Records.{records_of}
use Rattle.dm_model.proofs.FloorsClosed.{floor_closed, joined}
use Rattle.dm_model.proofs.LegalSteps.{InRange, in_range}
use Rattle.dm_model.proofs.ListFacts.{each_map, each_map2}
use Rattle.dm_model.proofs.Numbering.{Numbered, count_at, within_count}
use Rattle.dm_model.proofs.NumbersKept.{InDoubt, Pends}
use Rattle.dm_model.proofs.NumbersSound.{counts, sound_past}
use Rattle.dm_model.proofs.VectorFacts.{at_raised_own, join_has, join_keeps, long_raised}
use Rattle.dm_model.specs.Acts.{acts, entries, entry_of}
use Rattle.dm_model.specs.Allowed.{with_kept}
use Rattle.dm_model.specs.Doubts.{is_down, pending_at, step_of}
use Rattle.dm_model.specs.Floors.{floor, floor_vector}
use Rattle.dm_model.specs.Legal.{LegalPast, Legal}
use Rattle.dm_model.specs.Progress.{reached}
use Rattle.dm_model.specs.Rows.{found_fits}
use Rattle.dm_model.specs.Values.{value}
use Rattle.dm_record.specs.declared.record.Record.{Record}
use Rattle.dm_restart.proofs.Insides.{inside, inside_numbers, completed_same, completed_more}
use Rattle.dm_restart.proofs.Recorded.{floor_recorded, commits_recorded}
use Rattle.dm_restart.specs.Floors.{floor_of}
use Rattle.dm_restart.specs.Plans.{completed, numbers_of, ReachesFloor}
use Rattle.dm_steps.proofs.KeptFloors.{kept_floor_closed}
use Rattle.dm_store.proofs.Joining.{reads_inside}
use Rattle.dm_store.specs.Histories.{committed_inside}
use Rattle.dm_store.specs.Reads.{value_of}
use Rattle.dm_store.specs.declared.past.Past.{Past}

by_cons : (b : Bool) (x : List ℕ) (vs : List (List ℕ)) (P : List (List ℕ) → Type 0) → (b ≡ true → P (x ∷ vs)) → (b ≡ false → P vs)
    → P (cons_option (if b then Some x else None) vs)
by_cons true x vs P f g = f refl
by_cons false x vs P f g = g refl

-- the number of an own entry is within the floor
own_within : (count site : ℕ) → 1 ≤ site → site ≤ count → (ds : List Step) → Each (λ e. length e.begin ≡ count) (filter_map entry_of ds)
    → Each (λ e. e.origin ≡ site → e.seq ≤ joined count site ds site) (filter_map entry_of ds)
own_within count site one top [] l = tt
own_within count site one top (Commit e ∷ ds) l = (
  (λ o. by_cons (e.origin == site) (commit_vector e) (filter_map (floor_vector site) ds) (λ vs. e.seq ≤ at (join_all count vs) site)
      (λ t. (let own : at (commit_vector e) e.origin ≡ e.seq = at_raised_own e.begin e.origin e.seq (omega (arith, one, o)) (let long = l.0 in omega (arith, top, o, long)) in
      let here : at (commit_vector e) site ≡ e.seq = ap (λ (i : ℕ). at (commit_vector e) i) (sym o) ∙ own in
      let has = join_has count (commit_vector e) (filter_map (floor_vector site) ds) (long_raised e.begin e.origin e.seq ∙ l.0) site in omega (arith, here, has)))
      (λ t. absurd (eqb-false e.origin site t o))),
  each_map (λ d. d.origin ≡ site → d.seq ≤ joined count site ds site) (λ d. d.origin ≡ site → d.seq ≤ joined count site (Commit e ∷ ds) site)
      (λ d h o. le_trans (h o) (by_cons (e.origin == site) (commit_vector e) (filter_map (floor_vector site) ds)
      (λ vs. joined count site ds site ≤ at (join_all count vs) site) (λ t. join_keeps count (commit_vector e) (filter_map (floor_vector site) ds) site)
      (λ t. omega arith)))
      (filter_map entry_of ds) (own_within count site one top ds l.1),
)
own_within count site one top (Grant i part epoch v ∷ ds) l =
    each_map (λ d. d.origin ≡ site → d.seq ≤ joined count site ds site) (λ d. d.origin ≡ site → d.seq ≤ joined count site (Grant i part epoch v ∷ ds) site)
    (λ d h o. le_trans (h o) (by_cons (i == site) v (filter_map (floor_vector site) ds) (λ vs. joined count site ds site ≤ at (join_all count vs) site)
    (λ t. join_keeps count v (filter_map (floor_vector site) ds) site) (λ t. omega arith)))
    (filter_map entry_of ds) (own_within count site one top ds l)
own_within count site one top (s ∷ ds) l = own_within count site one top ds l

-- it is within both the floor and the count
own_low : (site : ℕ) (es : List Entry) → Numbered es → (v : List ℕ) → Each (λ e. e.origin ≡ site → e.seq ≤ at v site) es
    → Each (λ e. e.origin ≡ site → e.seq ≤ min (at v site) (count_at site es)) es
own_low site es n v own =
    each_map2 (λ e. e.seq ≤ count_at e.origin es) (λ e. e.origin ≡ site → e.seq ≤ at v site) (λ e. e.origin ≡ site → e.seq ≤ min (at v site) (count_at site es))
    (λ e w k o. (let a = k o in let b : count_at e.origin es ≡ count_at site es = ap (λ (i : ℕ). count_at i es) o in omega (arith, a, b, w)))
    es (within_count es n) own

-- what holds where the log of the site holds what these steps have of it, and the store those that the past has inside its floor
pub record Restarts (layout : Layout) (past kept : List Step) (site : ℕ) : Type 0 where
  pub numbered : Numbered (entries kept)
  pub within : (o : ℕ) → at (floor layout.sites kept site) o ≤ count_at o (entries kept)
  pub completes : completed site (records_of site kept) (inside (floor layout.sites kept site) (entries past)) ≡ inside (floor layout.sites kept site) (entries kept)

module _ (layout : Layout) (past : List Step) (site : ℕ) (range : InRange layout site) (h : LegalPast layout past) where
  -- no entry comes
  same_entries : (kept : List Step) → entries kept ≡ entries past → ((o : ℕ) → at (floor layout.sites kept site) o ≤ count_at o (entries kept))
      → Restarts layout past kept site
  same_entries kept same within =
      let s = sound_past layout past h in
      let F = floor layout.sites kept site in
      let n : Numbered (entries kept) = subst Numbered (sym same) s.numbered in
      let own = own_within layout.sites site range.one range.top (acts kept) (subst (λ (es : List Entry). Each (λ e. length e.begin ≡ layout.sites) es) (sym same) s.sized) in
      record {
        numbered = n;
        within = within;
        completes = ap (λ (es : List Entry). completed site (records_of site kept) (inside F es)) (sym same)
            ∙ completed_same site F (entries kept) n (records_of site kept) (commits_recorded site kept) (own_low site (entries kept) n F own);
      }

  -- the site's next entry comes
  more_entries : (e : Entry) → Pends layout.sites (entries past) (λ j. reached site j past) site e
      → ((o : ℕ) → at (floor layout.sites (Commit e ∷ past) site) o ≤ count_at o (e ∷ entries past)) → Restarts layout past (Commit e ∷ past) site
  more_entries e d within =
      let s = sound_past layout past h in
      let F = floor layout.sites (Commit e ∷ past) site in
      let seq : e.seq ≡ suc (count_at e.origin (entries past)) = d.seq ∙ ap (λ (k : ℕ). suc (count_at k (entries past))) (sym d.own) in
      let before : at e.begin e.origin < e.seq =
      (let a = d.within.below e.origin in let b = ap (λ (k : ℕ). reached site k past) d.own in let o = s.own site in let f = d.seq in omega (arith, a, b, o, f)) in
      let n : Numbered (e ∷ entries past) = (record { seq = seq; before = before }, s.numbered) in
      let own = own_within layout.sites site range.one range.top (Commit e ∷ acts past) (d.within.long, s.sized) in
      record {
        numbered = n;
        within = within;
        completes = completed_more site F (entries past) s.numbered (records_of site (Commit e ∷ past)) e n d.own
            (le-leb e.seq (at F e.origin) (let a = own.0 d.own in let b : at F e.origin ≡ at F site = ap (λ (i : ℕ). at F i) d.own in omega (arith, a, b)))
            (commits_recorded site (Commit e ∷ past)) (own_low site (entries past) s.numbered F own.1);
      }

  restarts : (found : Found) → found_fits found (is_down site past) ≡ true → Restarts layout past (with_kept site found past) site
  restarts Clean f = same_entries past refl (floor_closed layout past h site).within
  restarts Lost f = same_entries past refl (floor_closed layout past h site).within
  restarts Kept f = by (pending_at site past) refl
    where
      by : (o : Option Pending) → pending_at site past ≡ o → Restarts layout past (option_to_list (option_map (step_of site) o) ++ past) site
      by None e = same_entries past refl (floor_closed layout past h site).within
      by (Some (pending.Commit d)) e =
          more_entries d (subst (λ (o : Option Pending). InDoubt layout.sites (counts past) site o) e ((sound_past layout past h).in_doubt site f))
          (kept_floor_closed layout past h site f (pending.Commit d) e).within
      by (Some (pending.Release part epoch to v)) e =
          same_entries (Release site part epoch to v ∷ past) refl (kept_floor_closed layout past h site f (pending.Release part epoch to v) e).within
      by (Some (pending.Grant part epoch v)) e =
          same_entries (Grant site part epoch v ∷ past) refl (kept_floor_closed layout past h site f (pending.Grant part epoch v) e).within

module _ (layout : Layout) (history : List Step) (h : Legal layout history) (site : ℕ) (there : is_site layout site ≡ true) (found : Found)
    (fits : found_fits found (is_down site (reverse history)) ≡ true) where
  abbrev kept : List Step
  kept = with_kept site found (reverse history)

  abbrev own : List Record
  own = records_of site kept

  abbrev low : List ℕ
  low = floor_of layout.sites site own

  facts : Restarts layout (reverse history) kept site
  facts = restarts layout (reverse history) site (in_range layout site there) h found fits

  completes : completed site own (committed_inside history low) ≡ inside low (entries kept)
  completes =
      subst (λ (v : List ℕ). completed site own (inside v (entries (reverse history))) ≡ inside v (entries kept)) (sym (floor_recorded layout.sites kept site))
      facts.completes

  pub whole_plan : ReachesFloor layout.sites site own (committed_inside history low)
  whole_plan = λ o.
      ap (λ (ts : List Past). numbers_of o ts) completes
      ∙ inside_numbers low (entries kept) facts.numbered o
      ∙ ap (λ (n : ℕ). range_with_len 1 n)
      (let w = facts.within o in let e : at low o ≡ at (floor layout.sites kept site) o = ap (λ (v : List ℕ). at v o) (floor_recorded layout.sites kept site) in
      let m : min (at low o) (count_at o (entries kept)) ≡ at low o = omega (arith, w, e) in m)

  pub reads_plan : (u : List ℕ) (key : ℕ) → AtMost u low → value_of layout (completed site own (committed_inside history low)) key u ≡ value layout kept key u
  reads_plan u key most =
      let turned : reverse (reverse kept) ≡ kept = reverse-reverse kept in
      ap (λ (ts : List Past). value_of layout ts key u)
      (completes ∙ ap (λ (ss : List Step). inside low (entries ss)) (sym turned))
      ∙ reads_inside layout (reverse kept) low u key most
      ∙ ap (λ (ss : List Step). value layout ss key u) turned
