use Rattle.std.proofs.Common.{◌+◌, List, Option, ap, sym, ◌∙◌, drop}
use Rattle.std.specs.Prelude.{reverse}
use Rattle.std.specs.Option.{option_or}
use Rattle.dm_event.specs.declared.step.Step.{Step}
use Rattle.dm_event.specs.declared.step.TxnId.{TxnId}
use Rattle.dm_plain.proofs.Finding.{on_part, runner_of, runner_at}
use Rattle.dm_steps.proofs.Past.{drop_all}
use Rattle.dm_plain.proofs.running.runner.Goals as goal

pub returns-in-Some : goal.returns-in-Some
returns-in-Some c =
    let layout = c.args.schema.now in
    let steps = c.args.steps.now in
    let i = c.loop-step.step-index in
    sym (runner_of layout c.args.site c.args.part steps ∙ sym c.loop-step.invariant
    ∙ runner_at layout c.args.site c.args.part (reverse steps) steps i c.step-item.result c.loop-step-test.true c.step-item.is
    ∙ ap (λ (o : Option TxnId). option_or o (on_part layout c.args.site c.args.part (reverse steps) (drop (i + 1) steps)))
    (sym c.begun_runner.ensures ∙ c.in-Some.is))

pub loop-step-preserved : goal.loop-step-preserved
loop-step-preserved c =
    let layout = c.args.schema.now in
    let steps = c.args.steps.now in
    let i = c.loop-step.step-index in
    sym (runner_at layout c.args.site c.args.part (reverse steps) steps i c.step-item.result c.loop-step-test.true c.step-item.is
    ∙ ap (λ (o : Option TxnId). option_or o (on_part layout c.args.site c.args.part (reverse steps) (drop (i + 1) steps)))
    (sym c.begun_runner.ensures ∙ c.in_default.is))
    ∙ c.loop-step.invariant

pub returns : goal.returns
returns c =
    sym (runner_of c.args.schema.now c.args.site c.args.part c.args.steps.now ∙ sym c.loop-step.invariant
    ∙ ap (λ (l : List Step). on_part c.args.schema.now c.args.site c.args.part (reverse c.args.steps.now) l)
    (drop_all c.args.steps.now c.loop-step.step-index c.loop-step-test.false))
