use Rattle.std.proofs.Common.{ℕ, ◌<◌, get_or}
use Rattle.std.specs.Prelude.{pos, ◌<ℤ◌, ◌≤ℤ◌}
use Rattle.dm_placement.proofs.choosing.choose.Given as goal

abbrev pub invariant-loop-index : goal.invariant-loop-index
invariant-loop-index l = record {
  within : l.best < l.index;
  greatest : (k : ℕ) → k < l.index → get_or l.scores k (pos 0) ≤ℤ get_or l.scores l.best (pos 0);
  least : (k : ℕ) → k < l.best → get_or l.scores k (pos 0) <ℤ get_or l.scores l.best (pos 0);
}
