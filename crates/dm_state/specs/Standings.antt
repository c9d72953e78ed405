-- How the sessions and the partitions stand, and the steps of which this tells.
use Rattle.std.specs.Prelude.{ℕ, ◌≡◌, ◌==◌, if◌then◌else◌, List, None, unwrap_or, length, slice_get}
use Rattle.dm_event.specs.Layout.{Layout}
use Rattle.dm_event.specs.declared.attempt.Attempt.{Attempt}
use Rattle.dm_event.specs.declared.attempt.AttemptState.TheVariants.{Unrouted}
use Rattle.dm_event.specs.declared.placing.Placing.{Placing}
use Rattle.dm_event.specs.declared.placing.Placing.TheVariants.{Settled}
use Rattle.dm_event.specs.declared.step.Step.{Step}
use Rattle.dm_event.specs.declared.step.Step.TheVariants.{Reply}
use Rattle.dm_model.specs.Attempts.{attempt, replies}
use Rattle.dm_model.specs.Placings.{placing}
use Rattle.dm_steps.specs.Slots.{numbered_in}

-- the attempt and the number of Replies of each session, that of session 1 first, and the placing of each partition
pub record Standings : Type 0 where
  pub attempts : List Attempt
  pub replies : List ℕ
  pub placings : List Placing

-- of a session of which no step has come yet
abbrev pub idle : Attempt
idle = record { txn = None; state = Unrouted }

-- what there is of a session; of one that doesn't exist no step ever comes
abbrev pub attempt_in : Standings → ℕ → Attempt
attempt_in s session = unwrap_or (numbered_in s.attempts session) idle

abbrev pub replies_in : Standings → ℕ → ℕ
replies_in s session = unwrap_or (numbered_in s.replies session) 0

-- what there is of a partition; one that doesn't exist is nowhere, which is at site 0
abbrev pub placing_in : Standings → ℕ → Placing
placing_in s part = unwrap_or (slice_get s.placings part) (Settled 0 0)

-- these are the states after the steps
pub record AreStates (layout : Layout) (past : List Step) (s : Standings) : Type 0 where
  pub parts : length s.placings ≡ length layout.masters
  pub attempt_of : (session : ℕ) → attempt_in s session ≡ attempt session past
  pub replies_of : (session : ℕ) → replies_in s session ≡ replies session past
  pub placing_of : (part : ℕ) → placing_in s part ≡ placing layout past part

-- the number of Replies of the session after the step: an allowed Reply tells it
abbrev pub told_replies : ℕ → Step → ℕ → ℕ
told_replies c (Reply session number said) n = if session == c then number else n
told_replies c s n = n
