-- What the fields of the states say.
use Rattle.std.specs.Prelude.{◌≡◌, length}
use Rattle.dm_event.specs.declared.limits.TheConstants.{MAX_SESSIONS}
use Rattle.dm_state.specs.Standings.{Standings}
use Rattle.dm_state.specs.declared.states.States.TheInside.{Inside}

abbrev pub standings_of : Inside → Standings
standings_of s = record { attempts = s.attempts.items; replies = s.replies.items; placings = s.placings.items }

-- there is a place for each session
pub record HasSessions (s : Inside) : Type 0 where
  pub attempts : length s.attempts.items ≡ MAX_SESSIONS
  pub replies : length s.replies.items ≡ MAX_SESSIONS
