use Rattle.std.proofs.Common.{◌∙◌, sym}
use Rattle.dm_locks.proofs.Answers.{answer_after_got, answer_stays}
use Rattle.dm_locks.proofs.claim.answer_beside.Goals as goal

pub returns-in-Got : goal.returns-in-Got
returns-in-Got c =
    c.answer-in-Got.ensures ∙ sym (answer_after_got c.args.keys.now c.args.holders.now c.args.waiters.now (sym c.answer.ensures ∙ c.in-Got.is))

pub returns-in_default : goal.returns-in_default
returns-in_default c =
    c.answer.ensures ∙ sym (answer_stays c.args.keys.now c.args.holders.now c.args.waiters.now (λ g. c.in_default.not-Got (c.answer.ensures ∙ g)))
