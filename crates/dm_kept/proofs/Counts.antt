-- What a history of few steps counts.
use Rattle.std.proofs.Common.{ℕ, suc, ◌≤◌, ◌≡◌, refl, Bool, true, false, if◌then◌else◌, List, [], ◌∷◌, length, arith, subst, sym, ◌∙◌, nat_le}
use Rattle.std.proofs.lemmas.Bool.{and_parts, leb-true, cond-true, eq-eqb}
use Rattle.dm_event.specs.Layout.{Layout, is_site}
use Rattle.dm_event.specs.Vectors.{at}
use Rattle.dm_event.specs.declared.step.Step.{Step}
use Rattle.dm_model.proofs.VectorFacts.{at_by}
use Rattle.dm_model.specs.Attempts.{is_reply, is_route, routes}
use Rattle.dm_model.specs.Progress.{entry_count, reached, site_vector}
use Rattle.dm_steps.proofs.Sessions.{routes_next}

pub few_routes : (session : ℕ) (past : List Step) → routes session past ≤ length past
few_routes c [] = omega arith
few_routes c (s ∷ past) = subst (λ (n : ℕ). n ≤ suc (length past)) (sym (routes_next c s past)) (by (is_reply c s) (is_route c s) (few_routes c past))
  where
    by : (a b : Bool) → routes c past ≤ length past → (if a then 0 else (if b then suc (routes c past) else routes c past)) ≤ suc (length past)
    by true b h = omega arith
    by false true h = omega (arith, h)
    by false false h = omega (arith, h)

-- a site has all of its own
pub own_count : (layout : Layout) (past : List Step) (site : ℕ) → is_site layout site ≡ true
    → at (site_vector layout.sites past site) site ≡ entry_count site past
own_count layout past site h =
    let r = and_parts (nat_le 1 site) (nat_le site layout.sites) h in
    at_by layout.sites (λ j. reached site j past) site (leb-true 1 site r.0) (leb-true site layout.sites r.1)
    ∙ cond-true _ (entry_count site past) _ (eq-eqb site site refl)
