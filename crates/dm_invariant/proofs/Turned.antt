-- A site's parts in a turn, and after it.
use Rattle.std.proofs.Common.{ℕ, ◌≡◌, List, [], ◌∷◌, ◌++◌, Option, Some, refl, sym, ap, ◌∙◌, subst, inl}
use Rattle.std.specs.Prelude.{reverse, unwrap_or, IsSomeAnd}
use Rattle.atomic_table.specs.Seated.{TableId}
use Rattle.dm_chronicle.specs.Rule.{In, Legal as Follows}
use Rattle.dm_core.proofs.LawLegal.{legal_seen}
use Rattle.dm_core.specs.Lawful.{Terms, may_follow}
use Rattle.dm_event.specs.Layout.{Layout}
use Rattle.dm_event.specs.declared.actor.Actor.{Actor}
use Rattle.dm_event.specs.declared.actor.Actor.TheVariants.{Site}
use Rattle.dm_event.specs.declared.step.Step.{Step}
use Rattle.dm_model.specs.Legal.{Legal}
use Rattle.dm_others.proofs.Growing.{grown, reverse_snoc}
use Rattle.dm_others.specs.Adding.{AddsOthers}
use Rattle.dm_invariant.proofs.Staying.{keeps_other}
use Rattle.dm_invariant.specs.Turning.{Turned}
use Rattle.dm_invariant.specs.Keeping.{Parts, Keeps, IsSite}
use Rattle.dm_invariant.specs.Stations.{View, layout_of, no_terms}

-- what others did leaves all as it is
pub others_keep : (layout : Layout) (opened : List ℕ) (site : ℕ) (old new : List Step) (parts : Parts) → Legal layout new → AddsOthers (Site site) old new
    → Keeps layout opened site (reverse old) parts → Keeps layout opened site (reverse new) parts
others_keep layout opened site old new parts l o k =
    grown layout (Site site) (λ past. Keeps layout opened site past parts) (λ past x m b h. keeps_other layout opened site past x m b parts h)
    old new o.0 o.1 l k

-- a fact on the fixed part, which is there
at_terms : (fixed : Option Terms) (terms : Terms) (P : Terms → Type 0) → fixed ≡ Some terms → IsSomeAnd fixed P → P terms
at_terms fixed terms P e h = subst (λ (o : Option Terms). IsSomeAnd o P) e h

-- what the schema says, of a pass that knows it
pub layout_is : (pass : View) (terms : Terms) → pass.fixed ≡ Some terms → layout_of pass ≡ terms.layout
layout_is pass terms e = ap (λ (o : Option Terms). (unwrap_or o no_terms).layout) e

-- in the turn the list is legal, and adds others' steps alone
pub turn_legal : (table : TableId) (opened : List ℕ) (site : ℕ) (pass : View) (parts : Parts) (turn : List Step) (fixed : Option Terms)
    → IsSite table opened site pass parts → Turned pass turn fixed → Legal (layout_of pass) turn
turn_legal table opened site pass parts turn fixed s t =
    subst (λ (l : Layout). Legal l turn) (sym (layout_is pass s.terms s.fixed))
    (legal_seen s.terms turn (at_terms fixed s.terms (λ f. Follows may_follow f [] turn) (t.fixed_is ∙ s.fixed) t.follows))

pub turn_adds : (table : TableId) (opened : List ℕ) (site : ℕ) (pass : View) (parts : Parts) (turn : List Step) (fixed : Option Terms)
    → IsSite table opened site pass parts → Turned pass turn fixed → AddsOthers (Site site) pass.seen turn
turn_adds table opened site pass parts turn fixed s t =
    (t.begins, t.same (Site site) (subst (λ (as' : List Actor). In (Site site) as') (sym s.actors) (inl refl)))

-- the parts in the turn
pub in_turn : (table : TableId) (opened : List ℕ) (site : ℕ) (pass : View) (parts : Parts) (turn : List Step) (fixed : Option Terms)
    → IsSite table opened site pass parts → Turned pass turn fixed → Keeps (layout_of pass) opened site (reverse turn) parts
in_turn table opened site pass parts turn fixed s t =
    others_keep (layout_of pass) opened site pass.seen turn parts (turn_legal table opened site pass parts turn fixed s t)
    (turn_adds table opened site pass parts turn fixed s t)
    (subst (λ (l : Layout). Keeps l opened site (reverse pass.seen) parts) (sym (layout_is pass s.terms s.fixed)) s.keeps)

-- after it, with other parts that fit
pub after_turn : (table : TableId) (opened : List ℕ) (site : ℕ) (pass after : View) (parts now : Parts) (steps : List Step)
    → IsSite table opened site pass parts → after ≡ record pass { seen = steps } → Keeps (layout_of pass) opened site (reverse steps) now
    → IsSite table opened site after now
after_turn table opened site pass after parts now steps s e k = record {
  table_is = ap (λ (p : View). p.table) e ∙ s.table_is;
  actors = ap (λ (p : View). p.actors) e ∙ s.actors;
  terms = s.terms;
  fixed = ap (λ (p : View). p.fixed) e ∙ s.fixed;
  keeps = subst (λ (steps : List Step). Keeps s.terms.layout opened site (reverse steps) now) (sym (ap (λ (p : View). p.seen) e))
      (subst (λ (l : Layout). Keeps l opened site (reverse steps) now) (layout_is pass s.terms s.fixed) k);
}

-- after it, with one step more
pub after_step : (table : TableId) (opened : List ℕ) (site : ℕ) (pass after : View) (parts now : Parts) (turn : List Step) (step : Step)
    → IsSite table opened site pass parts → after ≡ record pass { seen = turn ++ step ∷ [] } → Keeps (layout_of pass) opened site (step ∷ reverse turn) now
    → IsSite table opened site after now
after_step table opened site pass after parts now turn step s e k =
    after_turn table opened site pass after parts now (turn ++ step ∷ []) s e
    (subst (λ (past : List Step). Keeps (layout_of pass) opened site past now) (sym (reverse_snoc turn step)) k)
