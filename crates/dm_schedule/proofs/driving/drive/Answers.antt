use Rattle.std.proofs.Common.{◌∙◌, ap, ◌++◌, List}
use Rattle.dm_lines.specs.declared.line.Line.{Line}
use Rattle.dm_schedule.specs.Drive.{Drive, driven, start}
use Rattle.dm_schedule.proofs.driving.drive.Goals as goal

pub returns-clause-layout : goal.returns-clause-layout
returns-clause-layout c = c.into_book.ensures.layout ∙ c.in_ok-answer_all.ensures.layout ∙ ap (λ (d : Drive). d.layout) c.in_ok-driver.ensures

pub returns-clause-history : goal.returns-clause-history
returns-clause-history c =
    c.into_book.ensures.history ∙ ap (λ (d : Drive). d.history) c.in_ok-answer_all.ensures.does
    ∙ ap (λ (d : Drive). (driven d c.deref.result.now).0.history) c.in_ok-driver.ensures
    ∙ ap (λ (lines : List Line). (driven (start c.args.schedule.now.schema) lines).0.history) c.deref.ensures.value

pub returns-clause-answers : goal.returns-clause-answers
returns-clause-answers c =
    c.in_ok-answer_all.ensures.answers
    ∙ ap (λ (d : Drive). c.args.out.now.items ++ (driven d c.deref.result.now).1) c.in_ok-driver.ensures
    ∙ ap (λ (lines : List Line). c.args.out.now.items ++ (driven (start c.args.schedule.now.schema) lines).1) c.deref.ensures.value
