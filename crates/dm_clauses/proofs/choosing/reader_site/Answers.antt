use Rattle.std.proofs.Common.{ℕ, ap, sym, ◌∙◌, arith, inl, inr}
use Rattle.std.proofs.lemmas.Bool.{cases_eq}
use Rattle.dm_clauses.specs.Choosing.{has_seen}
use Rattle.dm_clauses.proofs.Settled.{reader_found, reader_none}
use Rattle.dm_clauses.proofs.choosing.reader_site.Goals as goal

pub returns-then-has_seen : goal.returns-then-has_seen
returns-then-has_seen g c =
    c.around.ensures
    ∙ sym (reader_found (g.T.Told.layout c.args.told.now) (g.T.Told.past c.args.told.now) c.args.session c.loop-place.place (omega arith)
    (sym c.has_seen.ensures ∙ c.if-has_seen.true) c.loop-place.invariant)

pub loop-place-preserved : goal.loop-place-preserved
loop-place-preserved g c k x = elim (cases_eq k c.loop-place.place) [
  | inl e ↦ (ap (λ (i : ℕ). has_seen (g.T.Told.layout c.args.told.now) (g.T.Told.past c.args.told.now) c.args.session i) e ∙ sym c.has_seen.ensures ∙ c.if-has_seen.false)
  | inr n ↦ c.loop-place.invariant k (omega (arith, x, n))
]

pub returns : goal.returns
returns g c =
    c.around-2.ensures
    ∙ sym (reader_none (g.T.Told.layout c.args.told.now) (g.T.Told.past c.args.told.now) c.args.session (λ j x. c.loop-place.invariant j (omega (arith, x))))
