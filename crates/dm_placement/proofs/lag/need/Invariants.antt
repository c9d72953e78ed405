use Rattle.std.proofs.Common.{◌≡◌, ◌≤◌, length}
use Rattle.std.specs.Prelude.{map, filter}
use Rattle.std.specs.List.{range_with_len}
use Rattle.dm_event.specs.Parts.{in_order}
use Rattle.dm_event.specs.Vectors.{join_all}
use Rattle.dm_model.specs.Tests.{is_among}
use Rattle.dm_placement.specs.Scored.{home_in, vector_in}
use Rattle.dm_placement.proofs.lag.need.Given as goal

abbrev pub invariant-loop-index : goal.invariant-loop-index
invariant-loop-index l = record {
  joined : l.need ≡ join_all (length l.vectors) (map (λ p. vector_in l.vectors (home_in l.homes p))
      (filter (is_among l.wanted) (range_with_len 0 l.index)));
  ascends : 1 ≤ l.index → l.wanted ≡ in_order l.wanted;
}
