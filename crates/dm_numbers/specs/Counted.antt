-- What is kept of sites and sessions, and the steps of which it tells.
use Rattle.std.specs.Prelude.{ℕ, ◌≡◌, false, List, Option, None, unwrap_or, length, replicate}
use Rattle.dm_event.specs.Layout.{Layout}
use Rattle.dm_event.specs.declared.limits.TheConstants.{MAX_SESSIONS}
use Rattle.dm_event.specs.declared.step.Entry.{Entry}
use Rattle.dm_event.specs.declared.step.Pending.{Pending}
use Rattle.dm_event.specs.declared.step.Step.{Step}
use Rattle.dm_model.specs.Attempts.{routes}
use Rattle.dm_model.specs.Doubts.{is_down}
use Rattle.dm_model.specs.Floors.{floor}
use Rattle.dm_model.specs.Progress.{site_vector}
use Rattle.dm_model.specs.Runs.{last_begin}
use Rattle.dm_model.specs.Sessions.{session_vector}
use Rattle.dm_numbers.specs.Told.{told_vector, told_floor, told_seen, told_routes}
use Rattle.dm_numbers.specs.declared.session.SessionNumbers.{SessionNumbers}
use Rattle.dm_numbers.specs.declared.site.SiteNumbers.{SiteNumbers}
use Rattle.dm_steps.specs.Next.{next_down, next_begin}
use Rattle.dm_steps.specs.Slots.{numbered_in}

-- what there is of each site, that of site 1 first, and of each session
pub record Counted : Type 0 where
  pub sites : List SiteNumbers
  pub sessions : List SessionNumbers

module _ (layout : Layout) (past : List Step) where
  abbrev pub site_of : ℕ → SiteNumbers
  site_of site = record { vector = site_vector layout.sites past site; floor = floor layout.sites past site; down = is_down site past }

  abbrev pub session_of : ℕ → SessionNumbers
  session_of session = record { seen = session_vector layout.sites past session; begin = last_begin session past; routes = routes session past }

-- after a step, where the pending step is given that a Restart keeps
abbrev pub told_site : ℕ → Step → Option Pending → SiteNumbers → SiteNumbers
told_site i s kept x = record { vector = told_vector i s x.vector; floor = told_floor i s kept x.floor; down = next_down i s x.down }

-- after a step, where the entry is given that a Reply names
abbrev pub told_session : ℕ → Step → Option Entry → SessionNumbers → SessionNumbers
told_session c s named x = record { seen = told_seen c s named x.begin x.seen; begin = next_begin c s x.begin; routes = told_routes c s x.routes }

-- of a site or a session of which no step has come yet, for so many sites
abbrev pub no_site : ℕ → SiteNumbers
no_site count = record { vector = replicate count 0; floor = replicate count 0; down = false }

abbrev pub no_session : ℕ → SessionNumbers
no_session count = record { seen = replicate count 0; begin = None; routes = 0 }

-- what there is of a site; of one that doesn't exist no step ever comes
abbrev pub site_in : Counted → ℕ → SiteNumbers
site_in n site = unwrap_or (numbered_in n.sites site) (no_site (length n.sites))

abbrev pub session_in : Counted → ℕ → SessionNumbers
session_in n session = unwrap_or (numbered_in n.sessions session) (no_session (length n.sites))

-- these are the numbers after the steps
pub record AreNumbers (layout : Layout) (past : List Step) (n : Counted) : Type 0 where
  pub sites : length n.sites ≡ layout.sites
  pub sessions : length n.sessions ≡ MAX_SESSIONS
  pub site_is : (site : ℕ) → site_in n site ≡ site_of layout past site
  pub session_is : (session : ℕ) → session_in n session ≡ session_of layout past session
