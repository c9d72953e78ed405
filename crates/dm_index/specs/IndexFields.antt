-- What the fields of the index say.
use Rattle.std.specs.Prelude.{◌≡◌, length, map}
use Rattle.dm_event.specs.declared.limits.TheConstants.{MAX_SESSIONS}
use Rattle.dm_index.specs.Places.{Places}
use Rattle.dm_index.specs.Rooms.{rooms_of}
use Rattle.dm_index.specs.declared.index.Index.TheInside.{Inside}

abbrev pub places_shown : Inside → Places
places_shown s = record {
  routes = s.routes.items;
  doubts = s.doubts.items;
  entries = map (λ v. v.items) s.entries.items;
  rooms = rooms_of s.entries.items;
}

-- there is a place for each session
pub record HasPlaces (s : Inside) : Type 0 where
  pub sessions : length s.routes.items ≡ MAX_SESSIONS
