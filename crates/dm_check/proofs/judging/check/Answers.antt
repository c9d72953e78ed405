use Rattle.std.proofs.Common.{◌∙◌, ap, sym, subst, ◌++◌, [], ◌∷◌, List}
use Rattle.std.proofs.lemmas.List.{append-nil, nil_from_length, append_assoc}
use Rattle.dm_event.specs.Layout.{Layout}
use Rattle.dm_event.specs.declared.step.Step.{Step}
use Rattle.dm_check.specs.Judged.{IfNo, IsFirstRefused, HasJudged}
use Rattle.dm_check.proofs.judging.check.Goals as goal
use Rattle.dm_check.proofs.judging.check.Goals.{After-into_checked}

pub loop-step-preserved : goal.loop-step-preserved
loop-step-preserved c =
    let (before, whole, judged) = c.loop-step.invariant.judged in
    let taken = c.in-Some.ensures.steps.0 in
    record {
      judged = (
        before ++ c.in-Some.step ∷ [],
        append_assoc before (c.in-Some.step ∷ []) c.next.new.self.rest.items ∙ ap (λ (l : List Step). before ++ l) (sym taken) ∙ whole,
        c.in_ok-add.ensures.step before judged,
      );
      schema = c.add.ensures.schema ∙ c.loop-step.invariant.schema;
    }

all_judged : (c : After-into_checked) → HasJudged c.args.steps.items c.loop-step.judge
all_judged c =
    let (before, whole, judged) = c.loop-step.invariant.judged in
    let none = nil_from_length _ (sym c.loop-step.step-iterator.rest.ok.0 ∙ c.in-None.ensures.steps.0) in
    subst (λ (l : List Step). HasJudged l c.loop-step.judge) (sym (append-nil before) ∙ sym (ap (λ (l : List Step). before ++ l) none) ∙ whole) judged

pub returns-clause-whole : goal.returns-clause-whole
returns-clause-whole c = c.into_checked.ensures.whole c.args.steps.items (all_judged c)

pub returns-clause-first : goal.returns-clause-first
returns-clause-first c =
    subst (λ (layout : Layout). IfNo c.into_checked.result (λ place why legal. IsFirstRefused layout c.args.steps.items place why legal.steps))
    c.loop-step.invariant.schema (c.into_checked.ensures.first c.args.steps.items (all_judged c))
