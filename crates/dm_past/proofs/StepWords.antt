-- The words of a step's line.
use Rattle.std.proofs.Common.{◌≡◌, ◌∙◌, refl, ap, true, List, ◌++◌, [], ◌∷◌, arith, ℕ, length, nat_lt}
use Rattle.std.specs.Prelude.{codes}
use Rattle.std.specs.Fmt.{decimal}
use Rattle.std.proofs.lemmas.Bool.{lt-ltb}
use Rattle.dm_event.specs.declared.step.Cause.{Cause}
use Rattle.dm_event.specs.declared.step.Cause.TheVariants.{Undeclared, Log, Damage, Memory}
use Rattle.dm_event.specs.declared.step.Entry.{Entry}
use Rattle.dm_event.specs.declared.step.Pending.{Pending}
use Rattle.dm_event.specs.declared.step.Pending.TheVariants as pendings
use Rattle.dm_event.specs.declared.step.Said.{Said}
use Rattle.dm_event.specs.declared.step.Said.TheVariants as saids
use Rattle.dm_event.specs.declared.step.Step.{Step}
use Rattle.dm_event.specs.declared.step.Step.TheVariants as steps
use Rattle.dm_event.specs.declared.step.Want.{Want}
use Rattle.dm_event.specs.declared.step.Want.TheVariants as wants
use Rattle.dm_text.specs.Texts.{txn_text, pairs_text}
use Rattle.dm_history.specs.Parts.{spaced, keys_text, ops_text, want_text, choice_text, found_text, byte_text, cause_text, refusal_text, said_text}
use Rattle.dm_history.specs.Steps.{commit_line, release_line, grant_line, pending_line, step_text}
use Rattle.dm_fields.specs.Fields.{Words}
use Rattle.dm_past.proofs.Spaced.{groups, line_groups}
use Rattle.dm_past.proofs.VectorWords.{vector_words, vector_spaced}

-- a part of a line that is one word
abbrev pub one : List ℕ → Words
one word = word ∷ []

abbrev pub want_words : Want → Words
want_words (wants.Txn keys) = codes "txn" ∷ keys_text keys ∷ []
want_words (wants.Place part) = codes "place" ∷ decimal part ∷ []
want_words wants.Restart = codes "restart" ∷ []

-- the cause of a Fail
abbrev pub cause_words : Cause → Words
cause_words (Undeclared key) = codes "undeclared" ∷ decimal key ∷ []
cause_words (Log site) = codes "log" ∷ []
cause_words (Damage site place read written) = codes "damage" ∷ decimal place ∷ byte_text read ∷ byte_text written ∷ []
cause_words Memory = codes "memory" ∷ []

abbrev pub refusal_words : Cause → Words
refusal_words (Undeclared key) = codes "undeclared" ∷ decimal key ∷ []
refusal_words (Log site) = codes "log" ∷ decimal site ∷ []
refusal_words (Damage site place read written) = codes "damage" ∷ decimal site ∷ decimal place ∷ byte_text read ∷ byte_text written ∷ []
refusal_words Memory = codes "memory" ∷ []

abbrev pub said_words : Said → Words
said_words (saids.Committed site seq) = codes "committed" ∷ decimal site ∷ decimal seq ∷ []
said_words (saids.Read site) = codes "read" ∷ decimal site ∷ []
said_words (saids.InDoubt site) = codes "doubt" ∷ decimal site ∷ []
said_words (saids.Placed part site epoch) = codes "placed" ∷ decimal part ∷ decimal site ∷ decimal epoch ∷ []
said_words (saids.Restarted site) = codes "restarted" ∷ decimal site ∷ []
said_words (saids.Refused cause) = codes "refused" ∷ refusal_words cause

-- the parts of a line behind its kind
abbrev pub commit_parts : Entry → List Words
commit_parts e =
    one (decimal e.origin) ∷ one (txn_text e.txn) ∷ one (decimal e.seq) ∷ vector_words e.begin ∷ one (codes "ops") ∷ one (ops_text e.ops) ∷ one (codes "reads")
    ∷ one (pairs_text e.reads) ∷ one (codes "writes") ∷ one (pairs_text e.writes) ∷ []

abbrev pub release_parts : ℕ → ℕ → ℕ → ℕ → List ℕ → List Words
release_parts site part epoch to vector =
    one (decimal site) ∷ one (decimal part) ∷ one (decimal epoch) ∷ one (codes "to") ∷ one (decimal to) ∷ vector_words vector ∷ []

abbrev pub grant_parts : ℕ → ℕ → ℕ → List ℕ → List Words
grant_parts site part epoch vector = one (decimal site) ∷ one (decimal part) ∷ one (decimal epoch) ∷ vector_words vector ∷ []

abbrev pub act_words : ℕ → Pending → Words
act_words site (pendings.Commit entry) = codes "commit" ∷ groups (commit_parts entry)
act_words site (pendings.Release part epoch to vector) = codes "release" ∷ groups (release_parts site part epoch to vector)
act_words site (pendings.Grant part epoch vector) = codes "grant" ∷ groups (grant_parts site part epoch vector)

abbrev pub step_words : Step → Words
step_words (steps.Route txn want min site choice) =
    codes "route" ∷ groups (one (txn_text txn) ∷ want_words want ∷ one (codes "min") ∷ vector_words min ∷ one (codes "to") ∷ one (decimal site) ∷ one (choice_text choice) ∷ [])
step_words (steps.Reply session number said) = codes "reply" ∷ groups (one (decimal session) ∷ one (decimal number) ∷ said_words said ∷ [])
step_words (steps.Ask part epoch to txn) = codes "ask" ∷ groups (one (decimal part) ∷ one (decimal epoch) ∷ one (decimal to) ∷ one (txn_text txn) ∷ [])
step_words (steps.Settle part epoch) = codes "settle" ∷ groups (one (decimal part) ∷ one (decimal epoch) ∷ [])
step_words (steps.Begin site txn begin) = codes "begin" ∷ groups (one (decimal site) ∷ one (txn_text txn) ∷ vector_words begin ∷ [])
step_words (steps.Moved site txn) = codes "moved" ∷ groups (one (decimal site) ∷ one (txn_text txn) ∷ [])
step_words (steps.Commit entry) = act_words entry.origin (pendings.Commit entry)
step_words (steps.End site txn ops reads) =
    codes "end" ∷ groups (one (decimal site) ∷ one (txn_text txn) ∷ one (codes "ops") ∷ one (ops_text ops) ∷ one (codes "reads") ∷ one (pairs_text reads) ∷ [])
step_words (steps.Fail site txn cause) = codes "fail" ∷ groups (one (decimal site) ∷ one (txn_text txn) ∷ cause_words cause ∷ [])
step_words (steps.Refresh site origin) = codes "refresh" ∷ groups (one (decimal site) ∷ one (decimal origin) ∷ [])
step_words (steps.Release site part epoch to vector) = act_words site (pendings.Release part epoch to vector)
step_words (steps.Grant site part epoch vector) = act_words site (pendings.Grant part epoch vector)
step_words (steps.Doubt site pending) = codes "doubt" ∷ act_words site pending
step_words (steps.Restart site vector found) = codes "restart" ∷ groups (one (decimal site) ∷ vector_words vector ∷ one (found_text found) ∷ [])

-- ---- the line is these words

want_spaced : (want : Want) → spaced (want_words want) ≡ want_text want
unfolding want_text
want_spaced (wants.Txn keys) = refl
want_spaced (wants.Place part) = refl
want_spaced wants.Restart = refl

cause_spaced : (cause : Cause) → spaced (cause_words cause) ≡ cause_text cause
unfolding cause_text
cause_spaced (Undeclared key) = refl
cause_spaced (Log site) = refl
cause_spaced (Damage site place read written) = refl
cause_spaced Memory = refl

said_spaced : (said : Said) → spaced (said_words said) ≡ said_text said
unfolding said_text refusal_text
said_spaced (saids.Committed site seq) = refl
said_spaced (saids.Read site) = refl
said_spaced (saids.InDoubt site) = refl
said_spaced (saids.Placed part site epoch) = refl
said_spaced (saids.Restarted site) = refl
said_spaced (saids.Refused (Undeclared key)) = refl
said_spaced (saids.Refused (Log site)) = refl
said_spaced (saids.Refused (Damage site place read written)) = refl
said_spaced (saids.Refused Memory) = refl

some_want : (want : Want) → nat_lt 0 (length (want_words want)) ≡ true
some_want (wants.Txn keys) = refl
some_want (wants.Place part) = refl
some_want wants.Restart = refl

some_cause : (cause : Cause) → nat_lt 0 (length (cause_words cause)) ≡ true
some_cause (Undeclared key) = refl
some_cause (Log site) = refl
some_cause (Damage site place read written) = refl
some_cause Memory = refl

some_said : (said : Said) → nat_lt 0 (length (said_words said)) ≡ true
some_said (saids.Committed site seq) = refl
some_said (saids.Read site) = refl
some_said (saids.InDoubt site) = refl
some_said (saids.Placed part site epoch) = refl
some_said (saids.Restarted site) = refl
some_said (saids.Refused cause) = lt-ltb 0 (length (codes "refused" ∷ refusal_words cause)) (omega arith)

some_vector : (v : List ℕ) → nat_lt 0 (length (vector_words v)) ≡ true
some_vector [] = refl
some_vector (x ∷ []) = refl
some_vector (x ∷ y ∷ ys) = lt-ltb 0 (length (vector_words (x ∷ y ∷ ys))) (omega arith)

commit_spaced : (entry : Entry) → commit_line entry ≡ spaced (act_words entry.origin (pendings.Commit entry)) ++ codes "\n"
unfolding commit_line
commit_spaced entry = rw (← vector_spaced entry.begin) (line_groups (codes "commit") [] (commit_parts entry) (rw (some_vector entry.begin) refl))

release_spaced : (site part epoch to : ℕ) (vector : List ℕ) → release_line site part epoch to vector ≡ spaced (act_words site (pendings.Release part epoch to vector)) ++ codes "\n"
unfolding release_line
release_spaced site part epoch to vector = rw (← vector_spaced vector) (line_groups (codes "release") [] (release_parts site part epoch to vector) (rw (some_vector vector) refl))

grant_spaced : (site part epoch : ℕ) (vector : List ℕ) → grant_line site part epoch vector ≡ spaced (act_words site (pendings.Grant part epoch vector)) ++ codes "\n"
unfolding grant_line
grant_spaced site part epoch vector = rw (← vector_spaced vector) (line_groups (codes "grant") [] (grant_parts site part epoch vector) (rw (some_vector vector) refl))

pending_spaced : (site : ℕ) (pending : Pending) → pending_line site pending ≡ spaced (act_words site pending) ++ codes "\n"
unfolding pending_line
pending_spaced site (pendings.Commit entry) = commit_spaced entry
pending_spaced site (pendings.Release part epoch to vector) = release_spaced site part epoch to vector
pending_spaced site (pendings.Grant part epoch vector) = grant_spaced site part epoch vector

doubt_more : (site : ℕ) (pending : Pending) → codes "doubt " ++ spaced (act_words site pending) ≡ spaced (codes "doubt" ∷ act_words site pending)
doubt_more site (pendings.Commit entry) = refl
doubt_more site (pendings.Release part epoch to vector) = refl
doubt_more site (pendings.Grant part epoch vector) = refl

pub step_spaced : (step : Step) → step_text step ≡ spaced (step_words step) ++ codes "\n"
unfolding step_text
step_spaced (steps.Route txn want min site choice) =
    rw (← vector_spaced min, ← want_spaced want) (line_groups (codes "route") []
    (one (txn_text txn) ∷ want_words want ∷ one (codes "min") ∷ vector_words min ∷ one (codes "to") ∷ one (decimal site) ∷ one (choice_text choice) ∷ []) (rw (some_want want, some_vector min) refl))
step_spaced (steps.Reply session number said) = rw (← said_spaced said) (line_groups (codes "reply") [] (one (decimal session) ∷ one (decimal number) ∷ said_words said ∷ []) (rw (some_said said) refl))
step_spaced (steps.Ask part epoch to txn) = line_groups (codes "ask") [] (one (decimal part) ∷ one (decimal epoch) ∷ one (decimal to) ∷ one (txn_text txn) ∷ []) refl
step_spaced (steps.Settle part epoch) = line_groups (codes "settle") [] (one (decimal part) ∷ one (decimal epoch) ∷ []) refl
step_spaced (steps.Begin site txn begin) =
    rw (← vector_spaced begin) (line_groups (codes "begin") [] (one (decimal site) ∷ one (txn_text txn) ∷ vector_words begin ∷ []) (rw (some_vector begin) refl))
step_spaced (steps.Moved site txn) = line_groups (codes "moved") [] (one (decimal site) ∷ one (txn_text txn) ∷ []) refl
step_spaced (steps.Commit entry) = commit_spaced entry
step_spaced (steps.End site txn ops reads) =
    line_groups (codes "end") [] (one (decimal site) ∷ one (txn_text txn) ∷ one (codes "ops") ∷ one (ops_text ops) ∷ one (codes "reads") ∷ one (pairs_text reads) ∷ []) refl
step_spaced (steps.Fail site txn cause) =
    rw (← cause_spaced cause) (line_groups (codes "fail") [] (one (decimal site) ∷ one (txn_text txn) ∷ cause_words cause ∷ []) (rw (some_cause cause) refl))
step_spaced (steps.Refresh site origin) = line_groups (codes "refresh") [] (one (decimal site) ∷ one (decimal origin) ∷ []) refl
step_spaced (steps.Release site part epoch to vector) = release_spaced site part epoch to vector
step_spaced (steps.Grant site part epoch vector) = grant_spaced site part epoch vector
step_spaced (steps.Doubt site pending) =
    ap (λ (t : List ℕ). codes "doubt " ++ t) (pending_spaced site pending) ∙ ap (λ (t : List ℕ). t ++ codes "\n") (doubt_more site pending)
step_spaced (steps.Restart site vector found) =
    rw (← vector_spaced vector) (line_groups (codes "restart") [] (one (decimal site) ∷ vector_words vector ∷ one (found_text found) ∷ []) (rw (some_vector vector) refl))
