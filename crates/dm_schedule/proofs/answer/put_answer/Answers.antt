use Rattle.std.proofs.Common.{◌∙◌, sym, subst, List, ℕ}
use Rattle.dm_core.specs.Ledger.{past}
use Rattle.dm_text.specs.Text.{Appends}
use Rattle.dm_schedule.specs.Answers.{answer_text}
use Rattle.dm_schedule.proofs.LinesOf.{line_is}
use Rattle.dm_schedule.proofs.answer.put_answer.Goals as goal

pub returns-in-Replied : goal.returns-in-Replied
unfolding answer_text
returns-in-Replied c = rw c.in-Replied.is c.put_reply.ensures

pub returns-in_ok-to_string-in_default : goal.returns-in_ok-to_string-in_default
returns-in_ok-to_string-in_default c =
    let line = line_is (past c.args.book.now) c.args.answer _ c.in_default.not-Replied c.in_ok-to_string-in_default.ensures.ok in
    subst (λ (text : List ℕ). Appends c.put_text.result c.args.out.now.items c.put_text.new.out.items text) (c.deref.ensures ∙ sym line) c.put_text.ensures
