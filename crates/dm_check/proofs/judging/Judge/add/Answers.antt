use Rattle.std.proofs.Common.{◌≡◌, ◌++◌, ◌∷◌, [], None, sym, subst, Option, rules}
use Rattle.dm_event.specs.Layout.{Layout}
use Rattle.dm_event.specs.declared.why.Why.{Why}
use Rattle.dm_check.specs.Judged.{Judging, HasJudged, IsFound}
use Rattle.dm_check.proofs.Steps.{found_next}
use Rattle.dm_check.proofs.judging.Judge.add.Goals as goal

pub returns-in_ok-self-inside-clause-step : goal.returns-in_ok-self-inside-clause-step
returns-in_ok-self-inside-clause-step c = λ steps h.
    let book = c.self.inside.book in
    let told = c.in_ok-self-inside.ensures in
    let none : c.self.inside.refused ≡ None = search rules in
    let before = subst (λ (r : Option Why). IsFound book.layout steps r book.steps) none (subst (λ (j : Judging). HasJudged steps j) (sym c.self.view_is) h) in
    subst (λ (layout : Layout). IsFound layout (steps ++ c.args.step ∷ []) c.in_ok-self-inside.field-0 c.add.new.book.steps) (sym c.add.ensures.schema)
    (found_next book.layout steps book.steps c.args.step _ _ before told.refused told.steps)
