use Rattle.std.proofs.Common.{ℕ, ap, sym, ◌∙◌, arith, inl, inr}
use Rattle.std.specs.Prelude.{is_none}
use Rattle.std.proofs.lemmas.Bool.{cases_eq}
use Rattle.dm_event.proofs.Sites.{find_first, find_nothing}
use Rattle.dm_event.specs.declared.step.Step.TheVariants.{Refresh}
use Rattle.dm_model.specs.Allowed.{refusal}
use Rattle.dm_clauses.proofs.judging.next_refresh.Goals as goal

pub returns-then-may_refresh : goal.returns-then-may_refresh
returns-then-may_refresh g c =
    sym (find_first (λ j. is_none (refusal (g.T.Told.layout c.args.told.now) (g.T.Told.past c.args.told.now) (Refresh c.args.site j))) 1 (g.T.Told.layout c.args.told.now).sites c.loop-origin.origin
    (omega arith) (omega arith)
    (sym c.may_refresh.ensures ∙ c.if-may_refresh.true) (λ j x y. c.loop-origin.invariant j x y))

pub loop-origin-preserved : goal.loop-origin-preserved
loop-origin-preserved g c k x y = elim (cases_eq k c.loop-origin.origin) [
  | inl e ↦ (ap (λ (j : ℕ). is_none (refusal (g.T.Told.layout c.args.told.now) (g.T.Told.past c.args.told.now) (Refresh c.args.site j))) e ∙ sym c.may_refresh.ensures
      ∙ c.if-may_refresh.false)
  | inr n ↦ c.loop-origin.invariant k x (omega (arith, y, n))
]

pub returns : goal.returns
returns g c =
    sym (find_nothing (λ j. is_none (refusal (g.T.Told.layout c.args.told.now) (g.T.Told.past c.args.told.now) (Refresh c.args.site j))) 1 (g.T.Told.layout c.args.told.now).sites
    (λ j x y. c.loop-origin.invariant j x (omega (arith, y))))
