use Rattle.std.proofs.Common.{List, ap, ◌∙◌, reverse}
use Rattle.dm_event.specs.declared.step.Step.{Step}
use Rattle.dm_model.specs.Words.{latest, since}
use Rattle.dm_model.specs.Attempts.{is_reply}
use Rattle.dm_steps.specs.Adding.{routed_by}
use Rattle.dm_steps.proofs.Past.{past_whole}
use Rattle.dm_plain.proofs.Routings.{routed_last}
use Rattle.dm_plain.proofs.attempts.current_txn.Goals as goal

pub returns : goal.returns
returns c =
    c.loop-step.invariant ∙ ap (λ (past : List Step). latest (routed_by c.args.session) (since (is_reply c.args.session) past))
    (past_whole c.args.steps.now c.loop-step.step-index c.loop-step-test.false)
    ∙ routed_last c.args.session (since (is_reply c.args.session) (reverse c.args.steps.now))
