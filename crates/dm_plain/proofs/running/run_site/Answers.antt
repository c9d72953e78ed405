use Rattle.std.proofs.Common.{ℕ, ap, sym, ◌∙◌, arith, inl, inr}
use Rattle.std.specs.Prelude.{reverse}
use Rattle.std.proofs.lemmas.Bool.{cases_eq}
use Rattle.dm_model.specs.Runs.{runs}
use Rattle.dm_event.proofs.Sites.{find_first, find_nothing}
use Rattle.dm_plain.proofs.running.run_site.Goals as goal

pub returns-then-runs : goal.returns-then-runs
returns-then-runs c =
    sym (find_first (λ i. runs i c.args.txn (reverse c.args.steps.now)) 1 c.args.schema.now.sites c.loop-site.site (omega arith) (omega arith)
    (sym c.runs.ensures ∙ c.if-runs.true)
    (λ j x y. c.loop-site.invariant j x y))

pub loop-site-preserved : goal.loop-site-preserved
loop-site-preserved c k x y = elim (cases_eq k c.loop-site.site) [
  | inl e ↦ (ap (λ (i : ℕ). runs i c.args.txn (reverse c.args.steps.now)) e ∙ sym c.runs.ensures ∙ c.if-runs.false)
  | inr n ↦ c.loop-site.invariant k x (omega (arith, y, n))
]

pub returns : goal.returns
returns c = sym (find_nothing (λ i. runs i c.args.txn (reverse c.args.steps.now)) 1 c.args.schema.now.sites
    (λ j x y. c.loop-site.invariant j x (omega (arith, y))))
