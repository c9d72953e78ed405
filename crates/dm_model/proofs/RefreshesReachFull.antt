-- Refreshes bring each site that is up to the full vector, and no further.
use Rattle.std.proofs.Common.{ℕ, ◌+◌, ◌≤◌, ◌≡◌, ◌≢◌, false, true, List, Option, Some, None, refl, ap, ◌∙◌, arith, nat_lt}
use Rattle.std.proofs.lemmas.Bool.{leb-true, ltb-true, ltb-false}
use Rattle.std.specs.Prelude.{find}
use Rattle.dm_event.specs.Layout.{Layout, is_site}
use Rattle.dm_event.specs.Vectors.{at, AtMost, sites_to}
use Rattle.dm_event.specs.declared.step.Step.{Step}
use Rattle.dm_event.specs.declared.step.Step.TheVariants.{Refresh}
use Rattle.dm_model.proofs.FloorsClosed.{floor_closed}
use Rattle.dm_model.proofs.LaggingRefresh.{lagging_refresh}
use Rattle.dm_model.proofs.LegalSteps.{in_range, legal_refresh}
use Rattle.dm_model.proofs.ListFacts.{each_map, found_holds, find_none, each_range, map_same}
use Rattle.dm_model.proofs.MastershipSound.{floor_at}
use Rattle.dm_model.proofs.Numbering.{found_entry}
use Rattle.dm_model.proofs.NumbersSound.{sound_past}
use Rattle.dm_model.proofs.VectorFacts.{at_by}
use Rattle.dm_model.specs.Acts.{entries}
use Rattle.dm_model.specs.Allowed.{Allowed}
use Rattle.dm_model.specs.Closed.{Closed, is_inside}
use Rattle.dm_model.specs.Doubts.{is_down}
use Rattle.dm_model.specs.Floors.{floor}
use Rattle.dm_model.specs.Legal.{LegalPast}
use Rattle.dm_model.specs.Progress.{site_vector, full, reached, entry_count}

-- ---- the floor

pub closed_floor : (layout : Layout) (past : List Step) → LegalPast layout past → (site : ℕ) → Closed (floor layout.sites past site) past
closed_floor layout past h site =
    let c = floor_closed layout past h site in
    record {
      within = c.within;
      begun = each_map (λ e. e.seq ≤ floor_at layout past site e.origin → (j : ℕ) → at e.begin j ≤ floor_at layout past site j)
          (λ e. is_inside (floor layout.sites past site) e ≡ true → AtMost e.begin (floor layout.sites past site))
          (λ e f inside. f (leb-true e.seq (at (floor layout.sites past site) e.origin) inside)) (entries past) c.begun;
    }

-- ---- vectors that differ

pub lagging_may_refresh : (layout : Layout) (past : List Step) → LegalPast layout past → (site : ℕ) → is_site layout site ≡ true → is_down site past ≡ false
    → site_vector layout.sites past site ≢ full layout.sites past
    → (origin : ℕ) × Allowed layout past (Refresh site origin)
lagging_may_refresh layout past h site is up differ = by_lag (find (λ j. nat_lt (reached site j past) (entry_count j past)) (sites_to layout.sites)) refl
  where
    by_lag : (o : Option ℕ) → find (λ j. nat_lt (reached site j past) (entry_count j past)) (sites_to layout.sites) ≡ o → (origin : ℕ)
        × Allowed layout past (Refresh site origin)
    by_lag (Some j) f = lagging_refresh layout past h site (in_range layout site is) up j
        (ltb-true (reached site j past) (entry_count j past) (found_holds (λ j. nat_lt (reached site j past) (entry_count j past)) (sites_to layout.sites) j f))
    by_lag None f =
        absurd (differ (map_same (λ j. reached site j past) (λ j. entry_count j past) 1 layout.sites (λ j l m.
        let a = ltb-false (reached site j past) (entry_count j past) (each_range (λ j. nat_lt (reached site j past) (entry_count j past) ≡ false) 1 layout.sites
        (find_none (λ j. nat_lt (reached site j past) (entry_count j past)) (sites_to layout.sites) f) j l m) in
        let b = ((sound_past layout past h).closed site).within j in
        omega arith)))

-- ---- a site that has all

pub full_may_not_refresh : (layout : Layout) (past : List Step) → LegalPast layout past → (site : ℕ)
    → site_vector layout.sites past site ≡ full layout.sites past → (origin : ℕ) → Allowed layout past (Refresh site origin) → ⊥
full_may_not_refresh layout past h site same origin a =
    let legal = legal_refresh layout past site origin a in
    let has : at (site_vector layout.sites past site) origin ≡ entry_count origin past =
    ap (λ (v : List ℕ). at v origin) same ∙ at_by layout.sites (λ j. entry_count j past) origin legal.there.one legal.there.top in
    let g = found_entry (entries past) origin (at (site_vector layout.sites past site) origin + 1) legal.entry (sound_past layout past h).numbered legal.next in
    let w = g.within in let q = g.seq in
    absurd (omega (arith, has, w, q))
