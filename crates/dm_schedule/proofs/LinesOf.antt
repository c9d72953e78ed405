-- The line of an answer but a reply.
use Rattle.std.proofs.Common.{◌≡◌, sym, refl, ℕ, List}
use Rattle.std.specs.Prelude.{IfSome}
use Rattle.dm_event.specs.declared.step.Said.{Said}
use Rattle.dm_event.specs.declared.step.Step.{Step}
use Rattle.dm_schedule.specs.Answers.{answer_text, line_of}
use Rattle.dm_schedule.specs.declared.answer.Answer.{Answer}
use Rattle.dm_schedule.specs.declared.answer.Answer.TheVariants as answers

pub line_is : (past : List Step) (answer : Answer) (line : List ℕ) → ((session number : ℕ) (said : Said) → answer ≡ answers.Replied session number said → ⊥)
    → IfSome (line_of answer) (λ text. line ≡ text) → answer_text past answer ≡ line
unfolding answer_text line_of
line_is past (answers.Routed txn site choice) line other is = sym is
line_is past (answers.Begun txn site begin) line other is = sym is
line_is past (answers.Moved txn) line other is = sym is
line_is past (answers.Value value) line other is = sym is
line_is past answers.Put line other is = sym is
line_is past answers.Added line other is = sym is
line_is past (answers.Committed site seq vector) line other is = sym is
line_is past (answers.Ended begin) line other is = sym is
line_is past (answers.Replied session number said) line other is = absurd (other session number said refl)
line_is past answers.Failed line other is = sym is
line_is past (answers.Refreshed site vector) line other is = sym is
line_is past (answers.Asked part epoch to) line other is = sym is
line_is past (answers.Released part epoch vector) line other is = sym is
line_is past (answers.Granted part epoch to) line other is = sym is
line_is past (answers.Settled part epoch) line other is = sym is
line_is past (answers.Doubted site) line other is = sym is
line_is past (answers.Restarted site vector) line other is = sym is
line_is past (answers.Refused why) line other is = sym is
line_is past answers.RefusedOps line other is = sym is
