-- What a session is answered never falls behind what it was answered before.
use Rattle.std.specs.Prelude.{ℕ, ◌≡◌, List, [], ◌∷◌, Some, reverse}
use Rattle.dm_event.specs.Layout.{Layout}
use Rattle.dm_event.specs.Vectors.{AtMost}
use Rattle.dm_event.specs.declared.step.Entry.{Entry}
use Rattle.dm_event.specs.declared.step.Said.TheVariants as said
use Rattle.dm_event.specs.declared.step.Step.{Step}
use Rattle.dm_event.specs.declared.step.Step.TheVariants.{Reply}
use Rattle.dm_model.specs.Acts.{entry_at}
use Rattle.dm_model.specs.Runs.{last_begin}
use Rattle.dm_model.specs.Sessions.{session_vector}

-- here and at each earlier place the session's vector is at most this one
abbrev pub SessionWithin : ℕ → List Step → ℕ → List ℕ → Type 0
SessionWithin count [] session v = AtMost (session_vector count [] session) v
SessionWithin count (step ∷ past) session v = AtMost (session_vector count (step ∷ past) session) v × SessionWithin count past session v

-- a session that is answered as committed or read began there at no vector below what it was answered before
abbrev pub AnswersUp : ℕ → List Step → Step → Type 0
AnswersUp count past (Reply session number (said.Committed site seq)) =
    (e : Entry) × (entry_at site seq past ≡ Some e) × SessionWithin count past session e.begin
AnswersUp count past (Reply session number (said.Read site)) =
    (begin : List ℕ) × (last_begin session past ≡ Some begin) × SessionWithin count past session begin
AnswersUp count past step = Unit {0}

abbrev pub SessionUpPast : Layout → List Step → Type 0
SessionUpPast layout [] = Unit {0}
SessionUpPast layout (step ∷ past) = AnswersUp layout.sites past step × SessionUpPast layout past

-- every answer goes up
abbrev pub SessionUp : Layout → List Step → Type 0
SessionUp layout history = SessionUpPast layout (reverse history)
