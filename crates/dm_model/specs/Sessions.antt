-- What a session has seen.
use Rattle.std.specs.List.{cons_option}
use Rattle.std.specs.Prelude.{ℕ, ◌==◌, if◌then◌else◌, List, [], ◌∷◌, Option, None, option_map}
use Rattle.dm_event.specs.Entries.{commit_vector}
use Rattle.dm_event.specs.Vectors.{join_all}
use Rattle.dm_event.specs.declared.step.Said.TheVariants as said
use Rattle.dm_event.specs.declared.step.Step.{Step}
use Rattle.dm_event.specs.declared.step.Step.TheVariants.{Reply}
use Rattle.dm_model.specs.Acts.{entry_at}
use Rattle.dm_model.specs.Runs.{last_begin}

-- the vector that a Reply adds to what its session has seen: the commit vector of the entry that it answers as committed, or
-- the begin vector of the attempt that it answers as read
abbrev pub answered_by : ℕ → Step → List Step → Option (List ℕ)
answered_by c (Reply session number (said.Committed site seq)) past =
    if session == c then option_map commit_vector (entry_at site seq past) else None
answered_by c (Reply session number (said.Read site)) past = if session == c then last_begin c past else None
answered_by c s past = None

-- the vectors that the session's Replies add, the latest first
abbrev pub answered : ℕ → List Step → List (List ℕ)
answered session [] = []
answered session (step ∷ past) = cons_option (answered_by session step past) (answered session past)

-- the maximum of what the session was answered
abbrev pub session_vector : ℕ → List Step → ℕ → List ℕ
session_vector count past session = join_all count (answered session past)
