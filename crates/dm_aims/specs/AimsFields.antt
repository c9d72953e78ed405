-- What the field of aims says.
use Rattle.std.specs.Prelude.{◌≡◌, List, Option, length}
use Rattle.dm_event.specs.declared.limits.TheConstants.{MAX_SESSIONS}
use Rattle.dm_aims.specs.declared.aim.Aim.{Aim}
use Rattle.dm_aims.specs.declared.aims.Aims.TheInside.{Inside}

abbrev pub list_of : Inside → List (Option Aim)
list_of a = a.list.items

-- an aim for each session
abbrev pub HasSessions : Inside → Type 0
HasSessions a = length a.list.items ≡ MAX_SESSIONS
