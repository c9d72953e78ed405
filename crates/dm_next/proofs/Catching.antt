-- When a site has caught up.
use Rattle.std.proofs.Common.{ℕ, ◌≤◌, ◌≡◌, true, false, List, Option, Some, None, sym, ap, ◌∙◌, arith, inl, inr}
use Rattle.std.proofs.lemmas.Bool.{cases_lt, false≢true}
use Rattle.std.specs.Prelude.{is_none, reverse}
use Rattle.dm_event.specs.Layout.{Layout, is_site}
use Rattle.dm_event.specs.Vectors.{at, sites_to, AtMost}
use Rattle.dm_event.specs.declared.actor.Actor.TheVariants.{Site}
use Rattle.dm_event.specs.declared.step.Step.{Step}
use Rattle.dm_event.specs.declared.step.Step.TheVariants.{Refresh}
use Rattle.dm_model.proofs.LaggingRefresh.{lagging_refresh}
use Rattle.dm_model.proofs.LegalSteps.{in_range, legal_refresh}
use Rattle.dm_model.proofs.ListFacts.{found_holds, find_none, each_range, is_none_true}
use Rattle.dm_model.specs.Allowed.{Allowed, next_refresh, refusal}
use Rattle.dm_model.specs.Doubts.{is_down}
use Rattle.dm_model.specs.Legal.{Legal, LegalPast}
use Rattle.dm_model.specs.Progress.{entry_count, reached, site_vector}
use Rattle.dm_next.proofs.Reading.{within_vector}
use Rattle.dm_next.specs.Counted.{Counts}
use Rattle.dm_others.proofs.Growing.{unchanged}
use Rattle.dm_others.proofs.Logs.{down_other}
use Rattle.dm_others.proofs.Others.{vector_other}
use Rattle.dm_others.specs.Adding.{AddsOthers}

-- the Refresh that is due may come
pub due_allowed : (layout : Layout) (past : List Step) (site origin : ℕ) → next_refresh layout past site ≡ Some origin
    → Allowed layout past (Refresh site origin)
due_allowed layout past i o e = is_none_true _ (found_holds (λ (j : ℕ). is_none (refusal layout past (Refresh i j))) (sites_to layout.sites) o e)

none_true : {X : Type 0} (o : Option X) → o ≡ None → is_none o ≡ true
none_true o e = ap (λ (x : Option _). is_none x) e

-- where none is due none may come
pub none_allowed : (layout : Layout) (past : List Step) (site origin : ℕ) → next_refresh layout past site ≡ None → Allowed layout past (Refresh site origin) → ⊥
none_allowed layout past i o e a =
    let range = (legal_refresh layout past i o a).there in
    let top = range.top in
    false≢true (sym (each_range (λ j. is_none (refusal layout past (Refresh i j)) ≡ false) 1 layout.sites
    (find_none (λ j. is_none (refusal layout past (Refresh i j))) (sites_to layout.sites) e) o range.one (omega (arith, top))) ∙ none_true _ a)

-- where none is due at a site that is up, it has all that was counted
pub nothing_lacks : (layout : Layout) (past : List Step) (site : ℕ) (to : List ℕ) → LegalPast layout past → is_site layout site ≡ true
    → is_down site past ≡ false
    → next_refresh layout past site ≡ None → Counts layout past to → AtMost to (site_vector layout.sites past site)
nothing_lacks layout past i to l s up none k = within_vector layout.sites (λ j. reached i j past) to k.long below
  where
    below : (j : ℕ) → at to j ≤ reached i j past
    below j = elim (cases_lt (reached i j past) (entry_count j past)) [
      | inl m ↦ (let r = lagging_refresh layout past l i (in_range layout i s) up j m in absurd (none_allowed layout past i r.0 none r.1))
      | inr m ↦ (let a = k.within j in omega (arith, a, m))
    ]

-- ---- what stays where the site has no step

-- whether it is down, and its vector
pub record Far (layout : Layout) (old new : List Step) (site : ℕ) : Type 0 where
  pub down_is : is_down site (reverse new) ≡ is_down site (reverse old)
  pub vector_is : site_vector layout.sites (reverse new) site ≡ site_vector layout.sites (reverse old) site

pub far_on : (layout : Layout) (old new : List Step) (site : ℕ) → Legal layout new → AddsOthers (Site site) old new → Far layout old new site
far_on layout old new i l a = record {
  down_is = unchanged layout (Site i) (λ past. is_down i past) (λ past s m b. down_other i past s b) old new a.0 a.1 l;
  vector_is = unchanged layout (Site i) (λ past. site_vector layout.sites past i) (λ past s m b. vector_other layout i past m.0 s m.1 b) old new a.0 a.1 l;
}
