-- The line of a step, with its line feed.
use Rattle.std.specs.Prelude.{ℕ, List, [], ◌∷◌, ◌++◌, codes}
use Rattle.std.specs.Fmt.{decimal}
use Rattle.dm_event.specs.declared.step.Entry.{Entry}
use Rattle.dm_event.specs.declared.step.Pending.{Pending}
use Rattle.dm_event.specs.declared.step.Pending.TheVariants as pendings
use Rattle.dm_event.specs.declared.step.Step.{Step}
use Rattle.dm_event.specs.declared.step.Step.TheVariants as steps
use Rattle.dm_text.specs.Texts.{txn_text, vector_text, pairs_text}
use Rattle.dm_history.specs.Parts.{line_of, ops_text, want_text, choice_text, found_text, cause_text, said_text}

-- `commit I TXN SEQ VEC ops OPS reads PAIRS writes PAIRS`; the vector is the one at which the transaction began
unfoldable pub commit_line : Entry → List ℕ
commit_line entry = line_of (
    codes "commit" ∷ decimal entry.origin ∷ txn_text entry.txn ∷ decimal entry.seq ∷ vector_text entry.begin
    ∷ codes "ops" ∷ ops_text entry.ops ∷ codes "reads" ∷ pairs_text entry.reads ∷ codes "writes" ∷ pairs_text entry.writes ∷ [])

-- the partition's epoch, the site that takes it over, and the vector of the site that gives it up
unfoldable pub release_line : ℕ → ℕ → ℕ → ℕ → List ℕ → List ℕ
release_line site part epoch to vector =
    line_of (codes "release" ∷ decimal site ∷ decimal part ∷ decimal epoch ∷ codes "to" ∷ decimal to ∷ vector_text vector ∷ [])

-- the partition's new epoch, and the vector of its release
unfoldable pub grant_line : ℕ → ℕ → ℕ → List ℕ → List ℕ
grant_line site part epoch vector = line_of (codes "grant" ∷ decimal site ∷ decimal part ∷ decimal epoch ∷ vector_text vector ∷ [])

-- the line of the site's pending step; the origin of a pending commit is that site
unfoldable pub pending_line : ℕ → Pending → List ℕ
pending_line site (pendings.Commit entry) = commit_line entry
pending_line site (pendings.Release part epoch to vector) = release_line site part epoch to vector
pending_line site (pendings.Grant part epoch vector) = grant_line site part epoch vector

unfoldable pub step_text : Step → List ℕ
step_text (steps.Route txn want min site choice) =
    line_of (codes "route" ∷ txn_text txn ∷ want_text want ∷ codes "min" ∷ vector_text min ∷ codes "to" ∷ decimal site ∷ choice_text choice ∷ [])
step_text (steps.Reply session number said) = line_of (codes "reply" ∷ decimal session ∷ decimal number ∷ said_text said ∷ [])
step_text (steps.Ask part epoch to txn) = line_of (codes "ask" ∷ decimal part ∷ decimal epoch ∷ decimal to ∷ txn_text txn ∷ [])
step_text (steps.Settle part epoch) = line_of (codes "settle" ∷ decimal part ∷ decimal epoch ∷ [])
step_text (steps.Begin site txn begin) = line_of (codes "begin" ∷ decimal site ∷ txn_text txn ∷ vector_text begin ∷ [])
step_text (steps.Moved site txn) = line_of (codes "moved" ∷ decimal site ∷ txn_text txn ∷ [])
step_text (steps.Commit entry) = commit_line entry
step_text (steps.End site txn ops reads) =
    line_of (codes "end" ∷ decimal site ∷ txn_text txn ∷ codes "ops" ∷ ops_text ops ∷ codes "reads" ∷ pairs_text reads ∷ [])
step_text (steps.Fail site txn cause) = line_of (codes "fail" ∷ decimal site ∷ txn_text txn ∷ cause_text cause ∷ [])
step_text (steps.Refresh site origin) = line_of (codes "refresh" ∷ decimal site ∷ decimal origin ∷ [])
step_text (steps.Release site part epoch to vector) = release_line site part epoch to vector
step_text (steps.Grant site part epoch vector) = grant_line site part epoch vector
step_text (steps.Doubt site pending) = codes "doubt " ++ pending_line site pending
step_text (steps.Restart site vector found) = line_of (codes "restart" ∷ decimal site ∷ vector_text vector ∷ found_text found ∷ [])
