-- The versions of all keys, of which the latest stands first.
use Rattle.std.specs.Prelude.{ℕ, ℤ, ◌==◌, ◌&&◌, Bool, if◌then◌else◌, List, [], ◌∷◌, Option, Some, None}
use Rattle.dm_event.specs.Vectors.{has_number}
use Rattle.dm_event.specs.declared.step.Pair.{Pair}
use Rattle.dm_store.specs.declared.version.Version.{Version}

abbrev pub is_within : List ℕ → Version → Bool
is_within v x = has_number v x.origin x.seq

-- what the latest version of the key within the vector says
abbrev pub latest_version : List Version → ℕ → List ℕ → Option ℤ
latest_version [] key v = None
latest_version (x ∷ xs) key v = if (x.key == key) && is_within v x then Some x.value else latest_version xs key v

-- the version that a pair is in a transaction of this origin and number
abbrev pub version_by : ℕ → ℕ → Pair → Version
version_by origin seq p = record { origin = origin; key = p.key; seq = seq; value = p.value }

abbrev pub pair_of : Version → Pair
pair_of x = record { key = x.key; value = x.value }
