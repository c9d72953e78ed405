-- What a store reads.
use Rattle.std.specs.Option.{option_or}
use Rattle.std.specs.Prelude.{ℕ, ℤ, if◌then◌else◌, List, [], ◌∷◌, Option, None, reverse, unwrap_or}
use Rattle.dm_event.specs.Layout.{Layout, opening_value}
use Rattle.dm_event.specs.Vectors.{has_number}
use Rattle.dm_model.specs.Values.{written}
use Rattle.dm_store.specs.declared.past.Past.{Past}

-- what the latest writer of the key wrote of those inside the vector; the latest stands first
abbrev pub latest_write : List Past → ℕ → List ℕ → Option ℤ
latest_write [] key v = None
latest_write (t ∷ ts) key v = option_or (if has_number v t.origin t.seq then written t.writes key else None) (latest_write ts key v)

-- the key's value at the vector, of transactions that were installed in this order
abbrev pub value_of : Layout → List Past → ℕ → List ℕ → ℤ
value_of layout installed key v = unwrap_or (latest_write (reverse installed) key v) (opening_value layout key)
