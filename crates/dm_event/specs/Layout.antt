-- What a schema says: sites, partitions, opening values, weights.
use Rattle.std.specs.Prelude.{ℕ, ℤ, pos, ◌*◌, ◌/◌, Bool, nat_le, nat_lt, ◌&&◌, if◌then◌else◌, List, Option, Some, None, option_map, unwrap_or, find, reverse}
use Rattle.std.specs.Prelude.{length}
use Rattle.std.specs.List.{list_all}
use Rattle.dm_event.specs.declared.limits.TheConstants.{MAX_SITES, MAX_WIDTH, MAX_PARTS, MAX_RANGES, MAX_WEIGHT, MAX_SESSIONS}
use Rattle.dm_event.specs.declared.schema.Weights.{Weights}
use Rattle.dm_event.specs.declared.schema.ValueRange.{ValueRange}

-- the number of sites, the width of a partition, the opening master of each partition, the weights of the scores, and the
-- ranges of opening values
pub record Layout : Type 0 where
  pub sites : ℕ
  pub width : ℕ
  pub masters : List ℕ
  pub weights : Weights
  pub values : List ValueRange

-- how many keys there are: those below this number
abbrev pub key_count : Layout → ℕ
key_count layout = length layout.masters * layout.width

-- both ends count
abbrev pub is_between : ℕ → ℕ → ℕ → Bool
is_between least most n = nat_le least n && nat_le n most

abbrev pub fits_weights : Weights → Bool
fits_weights w = nat_le w.balance MAX_WEIGHT && (nat_le w.delay MAX_WEIGHT && nat_le w.together MAX_WEIGHT)

abbrev pub fits_range : ℕ → ValueRange → Bool
fits_range keys r = nat_le r.first r.last && nat_lt r.last keys

-- the layout keeps the limits of a schema
abbrev pub is_layout : Layout → Bool
is_layout l =
    is_between 1 MAX_SITES l.sites && (is_between 1 MAX_WIDTH l.width &&
    (is_between 1 MAX_PARTS (length l.masters) && (list_all (is_between 1 l.sites) l.masters
    && (fits_weights l.weights && (nat_le (length l.values) MAX_RANGES && list_all (fits_range (key_count l)) l.values)))))

-- the layout, where it keeps the limits
abbrev pub within_limits : Layout → Option Layout
within_limits l = if is_layout l then Some l else None

abbrev pub holds_key : ℕ → ValueRange → Bool
holds_key key r = nat_le r.first key && nat_le key r.last

-- the value of the last range that holds the key, and 0 where none does
abbrev pub opening_value : Layout → ℕ → ℤ
opening_value layout key = unwrap_or (option_map (λ r. r.value) (find (holds_key key) (reverse layout.values))) (pos 0)

-- the partition of the key, where there is such a key
abbrev pub part_of : Layout → ℕ → Option ℕ
part_of layout key = if nat_lt key (key_count layout) then Some (key / layout.width) else None

abbrev pub is_site : Layout → ℕ → Bool
is_site layout site = is_between 1 layout.sites site

abbrev pub is_part : Layout → ℕ → Bool
is_part layout part = nat_lt part (length layout.masters)

abbrev pub is_key : Layout → ℕ → Bool
is_key layout key = nat_lt key (key_count layout)

-- whatever the layout is
abbrev pub is_session : ℕ → Bool
is_session session = is_between 1 MAX_SESSIONS session
