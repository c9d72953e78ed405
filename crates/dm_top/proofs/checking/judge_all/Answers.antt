use Rattle.std.proofs.Common.{◌≡◌, ◌∙◌, sym, ap, refl, subst, List, [], ◌∷◌, ◌++◌, Option}
use Rattle.std.specs.Prelude.{IfSome}
use Rattle.dm_event.specs.declared.step.Step.{Step}
use Rattle.dm_past.specs.Histories.{Unread, history_of, read_on}
use Rattle.dm_top.proofs.checking.judge_all.Goals as goal

pub loop-step-init : goal.loop-step-init
unfolding history_of
loop-step-init c = record {
  judged = ([], ap (λ (u : Unread). read_on c.args.schema.now [] u) c.new-reader.ensures, c.requires.none);
  schema = refl;
}

pub loop-step-preserved : goal.loop-step-preserved
loop-step-preserved c =
    let (so_far, read, judged) = c.loop-step.invariant.judged in
    let layout = c.args.schema.now in
    let next : read_on layout so_far c.loop-step.reader ≡ read_on layout (so_far ++ c.in-Some.step ∷ []) c.next.new.self =
    subst (λ (o : Option Step). IfSome o (λ step. (xs : List Step) → read_on layout xs c.loop-step.reader ≡ read_on layout (xs ++ step ∷ []) c.next.new.self))
    c.in-Some.is c.in_ok-step.ensures.some so_far in
    record {
      judged = (so_far ++ c.in-Some.step ∷ [], sym next ∙ read, c.in_ok-add.ensures.step so_far judged);
      schema = c.add.ensures.schema ∙ c.loop-step.invariant.schema;
    }

pub returns-clause-all : goal.returns-clause-all
returns-clause-all c =
    let (so_far, read, judged) = c.loop-step.invariant.judged in
    record { steps = so_far; says = sym read ∙ c.in_ok-step.ensures.none c.in_default.is so_far; judged = judged }
