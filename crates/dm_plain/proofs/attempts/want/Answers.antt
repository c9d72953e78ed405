use Rattle.std.proofs.Common.{List, ap, ◌∙◌, reverse}
use Rattle.dm_event.specs.declared.step.Step.{Step}
use Rattle.dm_model.specs.Words.{latest}
use Rattle.dm_plain.specs.Routings.{want_of}
use Rattle.dm_steps.proofs.Past.{past_whole}
use Rattle.dm_plain.proofs.Routings.{want_last}
use Rattle.dm_plain.proofs.attempts.want.Goals as goal

pub returns : goal.returns
returns c =
    c.loop-step.invariant ∙ ap (λ (past : List Step). latest (want_of c.args.txn) past)
    (past_whole c.args.steps.now c.loop-step.step-index c.loop-step-test.false)
    ∙ want_last c.args.txn (reverse c.args.steps.now)
