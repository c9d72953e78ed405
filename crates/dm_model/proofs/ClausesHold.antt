-- What the clauses of a step say, where none of them fails.
use Rattle.std.proofs.Common.{ℕ, ◌≡◌, Bool, true, false, List, [], ◌∷◌, Option, Some, None, refl, ap, ◌∙◌}
use Rattle.std.proofs.lemmas.Bool.{eqb-true, false≢true}
use Rattle.std.specs.List.{AllByRecursion as Each}
use Rattle.std.specs.Option.{option_or}
use Rattle.std.specs.Prelude.{option_map, is_some}
use Rattle.dm_event.specs.Layout.{Layout}
use Rattle.dm_event.specs.Vectors.{sites_to}
use Rattle.dm_event.specs.declared.step.Step.{Step}
use Rattle.dm_event.specs.declared.step.TxnId.{TxnId}
use Rattle.dm_event.specs.declared.why.Why.{Why}
use Rattle.dm_model.proofs.ListFacts.{found_holds}
use Rattle.dm_model.specs.Clauses.{Clause, holds, first, at_site}
use Rattle.dm_model.specs.Runs.{runs, run_site}

-- neither gives anything
pub none_parts : {X : Type 0} (a b : Option X) → option_or a b ≡ None → (a ≡ None) × (b ≡ None)
none_parts None b h = (refl, h)
none_parts (Some a) b h = absurd (cc (h))

-- the test of a clause that holds passes
pub holds_true : (t : Bool) (w : Why) → holds t w ≡ None → t ≡ true
holds_true true w h = refl
holds_true false w h = absurd (cc (h))

-- a clause that holds found nothing
pub map_none : {A B : Type 0} (f : A → B) (o : Option A) → option_map f o ≡ None → o ≡ None
map_none f None h = refl
map_none f (Some x) h = absurd (cc (h))

-- the site is the one that is due
pub at_due : (due : Option ℕ) (site : ℕ) → is_some due ≡ true → at_site due site ≡ None → due ≡ Some site
at_due None site h k = absurd (false≢true h)
at_due (Some i) site h k = ap (λ (x : ℕ). Some x) (eqb-true i site (holds_true _ _ k))

-- the attempt runs at the site where it is due
pub runs_due : (layout : Layout) (past : List Step) (t : TxnId) (site : ℕ) → is_some (run_site layout past t) ≡ true
    → at_site (run_site layout past t) site ≡ None → runs site t past ≡ true
runs_due layout past t site h k = found_holds (λ i. runs i t past) (sites_to layout.sites) site (at_due (run_site layout past t) site h k)

-- where each clause holds, none gives a reason
pub first_none : (cs : List Clause) → Each (λ c. c ≡ None) cs → first cs ≡ None
first_none [] h = refl
first_none (c ∷ cs) h = ap (λ (x : Option _). option_or x (first cs)) h.0 ∙ first_none cs h.1

pub holds_none : (b : Bool) (w : _) → b ≡ true → holds b w ≡ None
holds_none true w h = refl
holds_none false w h = absurd (false≢true h)
