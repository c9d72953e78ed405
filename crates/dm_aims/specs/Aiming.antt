-- What a session's last Route asks for, and what has come of it.
use Rattle.std.specs.Option.{option_or, option_flatten}
use Rattle.std.specs.Prelude.{ℕ, ◌≡◌, ◌==◌, ◌||◌, false, List, Option, Some, None, option_map, option_and_then}
use Rattle.dm_event.specs.Layout.{Layout}
use Rattle.dm_event.specs.declared.placing.Placing.{Placing}
use Rattle.dm_event.specs.declared.step.Step.{Step}
use Rattle.dm_event.specs.declared.step.Want.{Want}
use Rattle.dm_event.specs.declared.step.Want.TheVariants as want
use Rattle.dm_aims.specs.declared.aim.Aim.{Aim}
use Rattle.dm_model.specs.Attempts.{Routing, routing_of, last_routing}
use Rattle.dm_model.specs.Outcomes.{settled_epoch, restarted_since}
use Rattle.dm_model.specs.Progress.{is_restart}
use Rattle.dm_steps.specs.Next.{last_settled}
use Rattle.dm_steps.specs.Slots.{numbered_in}

abbrev pub wanted_part : Want → Option ℕ
wanted_part (want.Place p) = Some p
wanted_part (want.Txn keys) = None
wanted_part want.Restart = None

-- of a Route that has just come, where the placings are given
abbrev pub first_aim : (ℕ → Placing) → Routing → Aim
first_aim now r = record { site = r.site; part = wanted_part r.want; settled = option_and_then (λ p. settled_epoch r.site (now p)) (wanted_part r.want); restarted = false }

-- after one step more
abbrev pub aim_after : (ℕ → Placing) → Step → Aim → Aim
aim_after now s a = record {
  site = a.site;
  part = a.part;
  settled = option_or (option_and_then (λ p. settled_epoch a.site (now p)) a.part) a.settled;
  restarted = is_restart a.site s || a.restarted;
}

-- the session's aim after the step, where the placings then are given
abbrev pub next_aim : ℕ → (ℕ → Placing) → Step → Option Aim → Option Aim
next_aim session now s aim = option_or (option_map (first_aim now) (routing_of (λ txn. txn.session == session) s)) (option_map (aim_after now s) aim)

-- what the session's last Route is for, and what has come of it
abbrev pub aim_by : Layout → List Step → ℕ → Routing → Aim
aim_by layout past session r = record {
  site = r.site;
  part = wanted_part r.want;
  settled = option_and_then (λ p. last_settled layout past session p r.site) (wanted_part r.want);
  restarted = restarted_since session r.site past;
}

abbrev pub aim_of : Layout → List Step → ℕ → Option Aim
aim_of layout past session = option_map (aim_by layout past session) (last_routing session past)

abbrev pub aim_in : List (Option Aim) → ℕ → Option Aim
aim_in aims session = option_flatten (numbered_in aims session)

-- these are the aims of the sessions
abbrev pub AreAims : Layout → List Step → List (Option Aim) → Type 0
AreAims layout past aims = (session : ℕ) → aim_in aims session ≡ aim_of layout past session
