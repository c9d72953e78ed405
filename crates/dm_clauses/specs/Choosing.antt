-- Where the partitions of keys are settled, and what a reader's circle has.
use Rattle.std.specs.List.{list_all}
use Rattle.std.specs.Prelude.{ℕ, ◌+◌, ◌-◌, ◌/◌, ◌%◌, Bool, List}
use Rattle.dm_event.specs.Layout.{Layout}
use Rattle.dm_event.specs.declared.step.Step.{Step}
use Rattle.dm_event.specs.Vectors.{is_at_most}
use Rattle.dm_model.specs.Progress.{site_vector}
use Rattle.dm_model.specs.Sessions.{session_vector}
use Rattle.dm_model.specs.Placings.{placing, settled_at}

-- the key's partition is settled at the site
abbrev pub is_settled : Layout → List Step → ℕ → ℕ → Bool
is_settled layout past site key = settled_at (placing layout past (key / layout.width)) site

abbrev pub all_settled : Layout → List Step → ℕ → List ℕ → Bool
all_settled layout past site keys = list_all (is_settled layout past site) keys

-- the site at this place of a circle that begins with the session's own
abbrev pub around : Layout → ℕ → ℕ → ℕ
around layout session k = 1 + (session - 1 + k) % layout.sites

-- that site has what the session has seen
abbrev pub has_seen : Layout → List Step → ℕ → ℕ → Bool
has_seen layout past session k = is_at_most (session_vector layout.sites past session) (site_vector layout.sites past (around layout session k))
