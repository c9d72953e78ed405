use Rattle.std.proofs.Common.{ℕ, ap, sym, ◌∙◌, arith, inl, inr}
use Rattle.std.specs.List.{list_all}
use Rattle.std.proofs.lemmas.Bool.{cases_eq}
use Rattle.dm_event.proofs.Sites.{find_first, find_nothing}
use Rattle.dm_model.specs.Choices.{parts_of}
use Rattle.dm_model.specs.Placings.{placing, settled_at}
use Rattle.dm_clauses.specs.Choosing.{all_settled}
use Rattle.dm_clauses.proofs.Settled.{settled_parts}
use Rattle.dm_clauses.proofs.choosing.settled_site.Goals as goal

pub returns-then-all_settled : goal.returns-then-all_settled
returns-then-all_settled g c =
    let layout = g.T.Told.layout c.args.told.now in
    let past = g.T.Told.past c.args.told.now in
    let keys = c.args.keys.now in
    sym (find_first (λ site. list_all (λ p. settled_at (placing layout past p) site) (parts_of layout keys)) 1 layout.sites c.loop-site.site (omega arith)
    (omega arith)
    (settled_parts layout past keys c.loop-site.site ∙ sym c.all_settled.ensures ∙ c.if-all_settled.true)
    (λ j x y. settled_parts layout past keys j ∙ c.loop-site.invariant j x y))

pub loop-site-preserved : goal.loop-site-preserved
loop-site-preserved g c k x y = elim (cases_eq k c.loop-site.site) [
  | inl e ↦ (ap (λ (i : ℕ). all_settled (g.T.Told.layout c.args.told.now) (g.T.Told.past c.args.told.now) i c.args.keys.now) e ∙ sym c.all_settled.ensures ∙ c.if-all_settled.false)
  | inr n ↦ c.loop-site.invariant k x (omega (arith, y, n))
]

pub returns : goal.returns
returns g c =
    let layout = g.T.Told.layout c.args.told.now in
    let past = g.T.Told.past c.args.told.now in
    let keys = c.args.keys.now in
    sym (find_nothing (λ site. list_all (λ p. settled_at (placing layout past p) site) (parts_of layout keys)) 1 layout.sites
    (λ j x y. settled_parts layout past keys j ∙ c.loop-site.invariant j x (omega (arith, y))))
