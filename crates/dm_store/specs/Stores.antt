-- What a store's fields say.
use Rattle.std.specs.Prelude.{◌≡◌, ◌*◌, ◌-◌, ◌≤◌, List, [], ◌∷◌, ◌++◌, map, take, drop, reverse, vec_len, vec_capacity}
use Rattle.dm_event.specs.declared.limits.TheConstants.{MAX_KEYS}
use Rattle.dm_store.specs.Contents.{Contents}
use Rattle.dm_store.specs.Versions.{pair_of, version_by}
use Rattle.dm_store.specs.declared.past.Past.{Past}
use Rattle.dm_store.specs.declared.store.Store.TheInside.{Inside}
use Rattle.dm_store.specs.declared.version.Installed.{Installed}
use Rattle.dm_store.specs.declared.version.Version.{Version}

-- the transactions with their writes, the latest first: each has its number of the versions, of which the latest stands first
abbrev pub transactions : List Installed → List Version → List Past
transactions [] xs = []
transactions (i ∷ is) xs = record { origin = i.origin; seq = i.seq; writes = map pair_of (take i.writes xs) } ∷ transactions is (drop i.writes xs)

-- the versions of transactions, the latest first
abbrev pub versions_by : List Past → List Version
versions_by [] = []
versions_by (t ∷ ts) = map (version_by t.origin t.seq) t.writes ++ versions_by ts

abbrev pub latest_first : Inside → List Past
latest_first s = transactions (reverse s.installed.items) s.chains.versions

abbrev pub contents : Inside → Contents
contents s = record { layout = s.schema; known = s.chains.known; installed = reverse (latest_first s); spare = s.spare }

-- the versions are those of the transactions, and there is the room
pub record IsStore (s : Inside) : Type 0 where
  pub whole : s.chains.versions ≡ versions_by (latest_first s)
  pub room_for_versions : s.spare * MAX_KEYS ≤ s.chains.room
  pub room_for_installs : s.spare ≤ vec_capacity s.installed - vec_len s.installed
