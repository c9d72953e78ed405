-- The line that answers a command line.
use Rattle.std.specs.Prelude.{ℕ, List, [], ◌++◌, Option, Some, None, unwrap_or, codes}
use Rattle.std.specs.Fmt.{decimal, signed_decimal}
use Rattle.dm_event.specs.declared.step.Step.{Step}
use Rattle.dm_history.specs.Parts.{choice_text}
use Rattle.dm_history.specs.Whys.{why_text}
use Rattle.dm_report.specs.Replies.{reply_text}
use Rattle.dm_schedule.specs.declared.answer.Answer.{Answer}
use Rattle.dm_schedule.specs.declared.answer.Answer.TheVariants as answers
use Rattle.dm_text.specs.Texts.{txn_text, vector_text}

-- the line of an answer for which no look at the steps is needed: of each but a reply
unfoldable pub line_of : Answer → Option (List ℕ)
line_of (answers.Routed txn site choice) =
    Some (codes "routed " ++ (txn_text txn ++ (codes " to " ++ (decimal site ++ (codes " " ++ (choice_text choice ++ codes "\n"))))))
line_of (answers.Begun txn site begin) =
    Some (codes "begun " ++ (txn_text txn ++ (codes " at " ++ (decimal site ++ (codes " " ++ (vector_text begin ++ codes "\n"))))))
line_of (answers.Moved txn) = Some (codes "moved " ++ (txn_text txn ++ codes "\n"))
line_of (answers.Value value) = Some (codes "value " ++ (signed_decimal value ++ codes "\n"))
line_of answers.Put = Some (codes "put\n")
line_of answers.Added = Some (codes "added\n")
line_of (answers.Committed site seq vector) =
    Some (codes "committed " ++ (decimal site ++ (codes "." ++ (decimal seq ++ (codes " " ++ (vector_text vector ++ codes "\n"))))))
line_of (answers.Ended begin) = Some (codes "ended " ++ (vector_text begin ++ codes "\n"))
line_of (answers.Replied session number said) = None
line_of answers.Failed = Some (codes "failed\n")
line_of (answers.Refreshed site vector) = Some (codes "refreshed " ++ (decimal site ++ (codes " " ++ (vector_text vector ++ codes "\n"))))
line_of (answers.Asked part epoch to) =
    Some (codes "asked " ++ (decimal part ++ (codes " epoch " ++ (decimal epoch ++ (codes " to " ++ (decimal to ++ codes "\n"))))))
line_of (answers.Released part epoch vector) =
    Some (codes "released " ++ (decimal part ++ (codes " epoch " ++ (decimal epoch ++ (codes " " ++ (vector_text vector ++ codes "\n"))))))
line_of (answers.Granted part epoch to) =
    Some (codes "granted " ++ (decimal part ++ (codes " epoch " ++ (decimal epoch ++ (codes " to " ++ (decimal to ++ codes "\n"))))))
line_of (answers.Settled part epoch) = Some (codes "settled " ++ (decimal part ++ (codes " epoch " ++ (decimal epoch ++ codes "\n"))))
line_of (answers.Doubted site) = Some (codes "doubt at " ++ (decimal site ++ codes "\n"))
line_of (answers.Restarted site vector) = Some (codes "restarted " ++ (decimal site ++ (codes " " ++ (vector_text vector ++ codes "\n"))))
line_of (answers.Refused why) = Some (codes "refused " ++ (why_text why ++ codes "\n"))
line_of answers.RefusedOps = Some (codes "refused ops\n")

-- where these are the steps so far, with the one that the line has brought
unfoldable pub answer_text : List Step → Answer → List ℕ
answer_text past (answers.Replied session number said) = reply_text past session number said
answer_text past answer = unwrap_or (line_of answer) []
