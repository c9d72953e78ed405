-- The line of a Reply, as a report and a step file's answer have it.
use Rattle.std.specs.Prelude.{ℕ, Bool, ◌==◌, ◌&&◌, if◌then◌else◌, List, [], ◌++◌, Option, Some, None, option_map, codes}
use Rattle.std.specs.Borrow.{Bor}
use Rattle.std.specs.Fmt.{decimal}
use Rattle.dm_event.specs.Entries.{commit_vector}
use Rattle.dm_event.specs.declared.step.Cause.{Cause}
use Rattle.dm_event.specs.declared.step.Cause.TheVariants.{Undeclared, Log, Damage, Memory}
use Rattle.dm_event.specs.declared.step.Entry.{Entry}
use Rattle.dm_event.specs.declared.step.Pair.{Pair}
use Rattle.dm_event.specs.declared.step.Said.{Said}
use Rattle.dm_event.specs.declared.step.Said.TheVariants.{Committed, Read, InDoubt, Placed, Restarted, Refused}
use Rattle.dm_event.specs.declared.step.Step.{Step}
use Rattle.dm_event.specs.declared.step.Step.TheVariants.{End}
use Rattle.dm_event.specs.declared.step.TxnId.{TxnId}
use Rattle.dm_history.specs.Parts.{byte_text}
use Rattle.dm_model.specs.Acts.{entry_at}
use Rattle.dm_model.specs.Runs.{begin_of}
use Rattle.dm_model.specs.Words.{latest}
use Rattle.dm_text.specs.Texts.{vector_text, pairs_text}

-- ---- what an item's transaction saw

-- the attempt is one at the session's item with this number
abbrev pub is_of_item : ℕ → ℕ → TxnId → Bool
is_of_item c n txn = (txn.session == c) && (txn.number == n)

-- what the step says was read, if it ends an attempt at the item
abbrev pub end_reads : ℕ → ℕ → Step → Option (List Pair)
end_reads c n (End site txn ops reads) = if is_of_item c n txn then Some reads else None
end_reads c n s = None

-- the begin vector of the last attempt at the item that began
abbrev pub item_begin : ℕ → ℕ → List Step → Option (List ℕ)
item_begin c n past = latest (begin_of (is_of_item c n)) past

-- what the item's transaction read, which ended without a write
abbrev pub item_reads : ℕ → ℕ → List Step → Option (List Pair)
item_reads c n past = latest (end_reads c n) past

abbrev pub both : {A B : Type 0} → Option A → Option B → Option (A × B)
both (Some a) (Some b) = Some (a, b)
both (Some a) None = None
both None b = None

abbrev pub saw_commit : Entry → List ℕ × List Pair
saw_commit entry = (commit_vector entry, entry.reads)

-- the commit vector and the reads of a transaction that committed; the begin vector and the reads of one that wrote nothing
abbrev pub saw : List Step → ℕ → ℕ → Said → Option (List ℕ × List Pair)
saw past c n (Committed site seq) = option_map saw_commit (entry_at site seq past)
saw past c n (Read site) = both (item_begin c n past) (item_reads c n past)
saw past c n (InDoubt site) = None
saw past c n (Placed part site epoch) = None
saw past c n (Restarted site) = None
saw past c n (Refused cause) = None

-- what a program holds of it
abbrev pub shown : Option (List ℕ × Bor (List Pair)) → Option (List ℕ × List Pair)
shown None = None
shown (Some seen) = Some (seen.0, seen.1.now)

-- ---- texts

-- ` [1 0] reads 3:5`
unfoldable pub saw_text : Option (List ℕ × List Pair) → List ℕ
saw_text None = []
saw_text (Some seen) = codes " " ++ (vector_text seen.0 ++ (codes " reads " ++ pairs_text seen.1))

-- why an item was refused
unfoldable pub reason_text : Cause → List ℕ
reason_text (Undeclared key) = codes "undeclared " ++ decimal key
reason_text (Log site) = codes "log " ++ decimal site
reason_text (Damage site place read written) =
    codes "damage " ++ (decimal site ++ (codes " at " ++ (decimal place ++ (codes " read " ++ (byte_text read ++ (codes " written " ++ byte_text written))))))
reason_text Memory = codes "memory"

-- how an item was answered
unfoldable pub outcome_text : Said → List ℕ
outcome_text (Committed site seq) = codes "committed " ++ (decimal site ++ (codes "." ++ decimal seq))
outcome_text (Read site) = codes "read at " ++ decimal site
outcome_text (InDoubt site) = codes "in doubt at " ++ decimal site
outcome_text (Placed part site epoch) = codes "placed " ++ (decimal part ++ (codes " at " ++ (decimal site ++ (codes " epoch " ++ decimal epoch))))
outcome_text (Restarted site) = codes "restarted " ++ decimal site
outcome_text (Refused cause) = codes "refused " ++ reason_text cause

-- the line of the session's Reply with this number, after these steps or in the midst of them
unfoldable pub reply_text : List Step → ℕ → ℕ → Said → List ℕ
reply_text past c n said =
    codes "reply " ++ (decimal c ++ (codes " " ++ (decimal n ++ (codes " " ++ (outcome_text said ++ (saw_text (saw past c n said) ++ codes "\n"))))))
