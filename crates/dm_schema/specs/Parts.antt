-- What data says of a part of a schema: first as a value of the part's type, and then inside its range.
use Rattle.std.specs.Prelude.{ℕ, ℤ, pos, negsuc, List, [], ◌∷◌, ◌++◌, length, Option, Some, None, is_none, option_and_then, nat_le, codes, if◌then◌else◌}
use Rattle.toml.specs.Data.{Data, Items, no_items, item, Members, get_member, as_integer, as_array, as_table}
use Rattle.dm_event.specs.Layout.{is_between, fits_range}
use Rattle.dm_event.specs.declared.limits.TheConstants.{MAX_PARTS, MAX_RANGES, MAX_WEIGHT}
use Rattle.dm_event.specs.declared.schema.Weights.{Weights}
use Rattle.dm_event.specs.declared.schema.ValueRange.{ValueRange}
use Rattle.dm_schema.specs.declared.spans.Span.{Span}
use Rattle.dm_schema.specs.Names.{least_other}

infixl 10 ◌>>=◌
abbrev ◌>>=◌ : {A B : Type 0} → Option A → (A → Option B) → Option B
o >>= f = option_and_then f o

-- what each element says, behind what was said so far, where each says something
abbrev pub each_from : {A B : Type 0} → List B → (A → Option B) → List A → Option (List B)
each_from so_far f [] = Some so_far
each_from so_far f (x ∷ xs) = option_and_then (λ y. each_from (so_far ++ y ∷ []) f xs) (f x)

abbrev pub each : {A B : Type 0} → (A → Option B) → List A → Option (List B)
each f xs = each_from [] f xs

abbrev pub elements : Items → List Data
elements no_items = []
elements (item d ds) = d ∷ elements ds

-- Types.

unfoldable pub integers : Data → Option (List ℤ)
integers d = do
  items ← as_array d
  each as_integer (elements items)

unfoldable pub integer_at : List ℕ → Members → Option ℤ
integer_at name ms = do
  d ← get_member name ms
  as_integer d

-- the three integers of a weighting
abbrev pub three : List ℤ → Option (ℤ × ℤ × ℤ)
three (a ∷ b ∷ c ∷ []) = Some (a, b, c)
three _ = None

-- the names of a table of values
abbrev pub span_names : List (List ℕ)
span_names = codes "from" ∷ codes "to" ∷ codes "value" ∷ []

-- a table of exactly these integers
unfoldable pub span_of : Data → Option Span
span_of d = do
  ms ← as_table d
  from ← integer_at (codes "from") ms
  to ← integer_at (codes "to") ms
  value ← integer_at (codes "value") ms
  if is_none (least_other span_names ms) then Some (record { from = from; to = to; value = value }) else None

unfoldable pub spans : Data → Option (List Span)
spans d = do
  items ← as_array d
  each span_of (elements items)

-- Ranges.

-- an integer that isn't negative
abbrev pub natural : ℤ → Option ℕ
natural (pos n) = Some n
natural (negsuc n) = None

-- both ends count
unfoldable pub within : ℕ → ℕ → ℤ → Option ℕ
within least most z = do
  n ← natural z
  if is_between least most n then Some n else None

-- the opening master of each partition
unfoldable pub masters_in : ℕ → List ℤ → Option (List ℕ)
masters_in sites zs = if is_between 1 MAX_PARTS (length zs) then each (within 1 sites) zs else None

unfoldable pub weights_in : ℤ × ℤ × ℤ → Option Weights
weights_in zs = do
  balance ← within 0 MAX_WEIGHT zs.0
  delay ← within 0 MAX_WEIGHT zs.1
  together ← within 0 MAX_WEIGHT zs.2
  Some (record { balance = balance; delay = delay; together = together })

-- the range, where it is one of so many keys
abbrev pub among_keys : ℕ → ValueRange → Option ValueRange
among_keys keys range = if fits_range keys range then Some range else None

unfoldable pub range_in : ℕ → Span → Option ValueRange
range_in keys span = do
  first ← natural span.from
  last ← natural span.to
  among_keys keys (record { first = first; last = last; value = span.value })

unfoldable pub ranges_in : ℕ → List Span → Option (List ValueRange)
ranges_in keys spans = if nat_le (length spans) MAX_RANGES then each (range_in keys) spans else None
