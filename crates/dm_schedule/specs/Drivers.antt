-- What a driver's fields say.
use Rattle.std.specs.Prelude.{◌≡◌, ℕ, ◌-◌, ◌≤◌, Bool, true, false, List, [], map, reverse, slice_index_or, unwrap_or, Option, Some, None, vec_len}
use Rattle.dm_body.specs.Progress.{Progress, nothing_done}
use Rattle.dm_event.specs.Layout.{Layout}
use Rattle.dm_event.specs.declared.limits.TheConstants.{MAX_SESSIONS}
use Rattle.dm_event.specs.declared.step.Op.{Op}
use Rattle.dm_event.specs.declared.step.Step.{Step}
use Rattle.dm_event.specs.declared.step.Step.TheVariants.{Begin}
use Rattle.dm_event.specs.declared.why.Why.{Why}
use Rattle.dm_model.specs.Bodies.{ran_at}
use Rattle.dm_model.specs.Legal.{Legal}
use Rattle.dm_model.specs.Runs.{last_begin}
use Rattle.dm_schedule.specs.Drive.{Drive}
use Rattle.dm_schedule.specs.declared.driver.Driver.TheInside.{Inside}

abbrev pub ops_in : List Progress → List (List Op)
ops_in overlays = map (λ p. p.ops) overlays

abbrev pub drive_in : Inside → Drive
drive_in d = record { layout = d.book.layout; history = d.book.steps; ops = ops_in d.overlays.items }

-- what the session's attempt has done
abbrev pub overlay_of : ℕ → List Progress → Progress
overlay_of session overlays = slice_index_or overlays (session - 1) nothing_done

-- the vector at which the session's last attempt began
abbrev pub began : ℕ → List Step → List ℕ
began session past = unwrap_or (last_begin session past) []

-- each session's attempt has read and written what its ops do on the values at the vector at which it began
abbrev pub AreBodies : Layout → List Step → List Progress → Type 0
AreBodies layout past overlays =
    (session : ℕ) → 1 ≤ session → (overlay_of session overlays).ran ≡ ran_at layout past (began session past) (overlay_of session overlays).ops

pub record IsDriver (d : Inside) : Type 0 where
  pub sessions : vec_len d.overlays ≡ MAX_SESSIONS
  pub legal : Legal d.book.layout d.book.steps
  pub bodies : AreBodies d.book.layout (reverse d.book.steps) d.overlays.items

abbrev pub is_begin : Step → Bool
is_begin (Begin site txn begin) = true
is_begin s = false

-- the next drive, unless there is a reason against it
abbrev pub unless : Option Why → Drive → Drive → Drive
unless None d next = next
unless (Some reason) d next = d
