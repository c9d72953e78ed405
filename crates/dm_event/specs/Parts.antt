-- Lists of partitions.
use Rattle.std.specs.List.{list_any, range_with_len}
use Rattle.std.specs.Prelude.{ℕ, ◌==◌, List, unwrap_or, filter}
use Rattle.dm_event.specs.Ascending.{with_key}
use Rattle.dm_event.specs.declared.limits.TheConstants.{MAX_PARTS}

-- ascending partitions, with one more at its place unless it stands there
abbrev pub with_part : ℕ → List ℕ → List ℕ
with_part part parts = unwrap_or (with_key part parts) parts

-- those partitions, of all that there may be, that stand in the list, ascending
abbrev pub in_order : List ℕ → List ℕ
in_order parts = filter (λ part. list_any (λ p. p == part) parts) (range_with_len 0 MAX_PARTS)
