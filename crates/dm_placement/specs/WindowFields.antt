-- What a window's fields say.
use Rattle.std.specs.Prelude.{ℕ, ◌≡◌, ◌≤◌, List, length}
use Rattle.dm_event.specs.declared.limits.TheConstants.{WINDOW}
use Rattle.dm_placement.specs.declared.window.Window.TheInside.{Inside}

-- the sets, the oldest first
abbrev pub sets_of : Inside → List (List ℕ)
sets_of window = window.sets.items

-- there is room for the most sets, and there are no more
pub record HoldsMost (window : Inside) : Type 0 where
  pub room : window.sets.capacity ≡ WINDOW
  pub most : length window.sets.items ≤ WINDOW
