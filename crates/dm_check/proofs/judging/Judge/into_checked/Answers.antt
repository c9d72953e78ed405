use Rattle.std.proofs.Common.{◌≡◌, ◌∙◌, ap, sym, subst, Option, Some}
use Rattle.dm_event.specs.declared.why.Why.{Why}
use Rattle.dm_check.specs.Judged.{Judging, IsFound}
use Rattle.dm_check.proofs.Steps.{not_legal}
use Rattle.dm_check.proofs.judging.Judge.into_checked.Goals as goal

pub returns-in-Some-clause-yes : goal.returns-in-Some-clause-yes
returns-in-Some-clause-yes c = λ steps h.
    let book = c.args.self.book in
    let some : c.args.self.refused ≡ Some c.in-Some.why = ap (λ (j : Judging). j.refused) (sym c.self.view_is) ∙ c.in-Some.is in
    let found = subst (λ (r : Option Why). IsFound book.layout steps r book.steps) some h in
    (λ no. elim no [ ], not_legal book.layout steps c.in-Some.why book.steps found)
