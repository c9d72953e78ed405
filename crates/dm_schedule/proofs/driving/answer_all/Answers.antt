use Rattle.std.proofs.Common.{arith, ◌∙◌, ap, sym, subst, refl, ◌++◌, ℕ, List}
use Rattle.std.proofs.lemmas.List.{append-nil}
use Rattle.std.proofs.lemmas.Result.{err_from_is_err_and}
use Rattle.dm_schedule.specs.Drive.{Drive}
use Rattle.dm_schedule.proofs.Begins.{begins_further, begins_more, begins_same}
use Rattle.dm_schedule.proofs.Keeps.{Keeps, line_keeps}
use Rattle.dm_schedule.proofs.Lines.{history_more, answers_more, driven_end}
use Rattle.dm_schedule.proofs.driving.answer_all.Goals as goal

pub returns-in_err-answer-clause-answers : goal.returns-in_err-answer-clause-answers
returns-in_err-answer-clause-answers c =
    let error = err_from_is_err_and c.from_residual.result c.from_residual.ensures.1 in
    rw (error.1) (begins_further _ _ _ c.in_err-answer.ensures.answers c.loop-line.invariant.begins)

pub loop-line-init : goal.loop-line-init
loop-line-init c = record {
  layout = refl;
  steps = omega (arith);
  does = refl;
  answers = refl;
  begins = begins_same c.args.out.now.items;
}

pub loop-line-preserved : goal.loop-line-preserved
loop-line-preserved c =
    let before = c.loop-line.invariant in
    let lt = c.loop-line-test.true in
    let at = c.line-item.is in
    let keeps = subst (λ (d : Drive). Keeps c.loop-line.driver d) (sym c.in_ok-answer.ensures.does) (line_keeps c.loop-line.driver c.line-item.result) in
    record {
      layout = keeps.layout ∙ before.layout;
      steps = omega (arith, keeps.steps, before.steps);
      does = history_more c.loop-line.driver c.answer.new.driver _ _ c.line-item.result lt at c.in_ok-answer.ensures.does _ before.does;
      answers = answers_more c.loop-line.driver c.answer.new.driver _ _ c.line-item.result lt at c.in_ok-answer.ensures.does c.loop-line.out.items _ _
          c.in_ok-answer.ensures.answers before.answers;
      begins = begins_more _ _ _ _ c.in_ok-answer.ensures.answers before.begins;
    }

pub returns-clause-does : goal.returns-clause-does
returns-clause-does c =
    let end = driven_end c.loop-line.driver _ c.loop-line.line-index c.loop-line-test.false in
    sym (ap (λ (r : Drive × List ℕ). r.0) end) ∙ c.loop-line.invariant.does

pub returns-clause-answers : goal.returns-clause-answers
returns-clause-answers c =
    let end = driven_end c.loop-line.driver _ c.loop-line.line-index c.loop-line-test.false in
    sym (append-nil c.loop-line.out.items) ∙ sym (ap (λ (r : Drive × List ℕ). c.loop-line.out.items ++ r.1) end) ∙ c.loop-line.invariant.answers
