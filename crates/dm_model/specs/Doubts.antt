-- Which sites are down, and the step that is in doubt there.
use Rattle.std.specs.Prelude.{ℕ, Bool, true, false, ◌==◌, if◌then◌else◌, List, Option, Some, None, unwrap_or}
use Rattle.dm_event.specs.declared.step.Pending.{Pending}
use Rattle.dm_event.specs.declared.step.Pending.TheVariants as pending
use Rattle.dm_event.specs.declared.step.Step.{Step}
use Rattle.dm_event.specs.declared.step.Step.TheVariants.{Commit, Release, Grant, Doubt, Restart}
use Rattle.dm_model.specs.Words.{latest}

-- whether the step takes the site down or up
abbrev pub down_after : ℕ → Step → Option Bool
down_after i (Doubt site p) = if site == i then Some true else None
down_after i (Restart site vector found) = if site == i then Some false else None
down_after i s = None

-- from a Doubt of the site to its next Restart
abbrev pub is_down : ℕ → List Step → Bool
is_down site past = unwrap_or (latest (down_after site) past) false

abbrev pub doubt_at : ℕ → Step → Option Pending
doubt_at i (Doubt site p) = if site == i then Some p else None
doubt_at i s = None

-- the pending step of the site's last Doubt
abbrev pub pending_at : ℕ → List Step → Option Pending
pending_at site past = latest (doubt_at site) past

-- the pending step, as a step of the site
abbrev pub step_of : ℕ → Pending → Step
step_of site (pending.Commit entry) = Commit entry
step_of site (pending.Release part epoch to vector) = Release site part epoch to vector
step_of site (pending.Grant part epoch vector) = Grant site part epoch vector
