use Rattle.std.proofs.Common.{◌+◌, ℕ, List, Option, ap, sym, ◌∙◌, drop}
use Rattle.std.specs.Prelude.{reverse}
use Rattle.std.specs.Option.{option_or}
use Rattle.dm_event.specs.declared.step.TxnId.{TxnId}
use Rattle.dm_event.specs.declared.step.Step.{Step}
use Rattle.dm_model.specs.Allowed.{holder_among}
use Rattle.dm_plain.proofs.Finding.{live, holder_of, holder_at}
use Rattle.dm_steps.proofs.Past.{drop_all}
use Rattle.dm_plain.proofs.running.holder.Goals as goal

pub returns-in-Some : goal.returns-in-Some
returns-in-Some c =
    sym (holder_of c.args.site c.args.keys.now c.args.steps.now ∙ sym c.loop-step.invariant
    ∙ holder_at c.args.site c.args.keys.now (reverse c.args.steps.now) c.args.steps.now c.loop-step.step-index c.step-item.result c.loop-step-test.true
    c.step-item.is
    ∙ ap (λ (o : Option (TxnId × ℕ)). option_or o
    (holder_among c.args.keys.now (live c.args.site c.args.keys.now (reverse c.args.steps.now) (drop (c.loop-step.step-index + 1) c.args.steps.now))
    (reverse c.args.steps.now)))
    (sym c.begun_holder.ensures ∙ c.in-Some.is))

pub loop-step-preserved : goal.loop-step-preserved
loop-step-preserved c =
    sym (holder_at c.args.site c.args.keys.now (reverse c.args.steps.now) c.args.steps.now c.loop-step.step-index c.step-item.result c.loop-step-test.true
    c.step-item.is
    ∙ ap (λ (o : Option (TxnId × ℕ)). option_or o
    (holder_among c.args.keys.now (live c.args.site c.args.keys.now (reverse c.args.steps.now) (drop (c.loop-step.step-index + 1) c.args.steps.now))
    (reverse c.args.steps.now)))
    (sym c.begun_holder.ensures ∙ c.in_default.is))
    ∙ c.loop-step.invariant

pub returns : goal.returns
returns c =
    sym (holder_of c.args.site c.args.keys.now c.args.steps.now ∙ sym c.loop-step.invariant
    ∙ ap (λ (l : List Step). holder_among c.args.keys.now (live c.args.site c.args.keys.now (reverse c.args.steps.now) l) (reverse c.args.steps.now))
    (drop_all c.args.steps.now c.loop-step.step-index c.loop-step-test.false))
