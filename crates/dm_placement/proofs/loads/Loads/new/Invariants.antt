use Rattle.std.proofs.Common.{ℕ, ◌*◌, ◌≤◌, ◌≡◌, get_or, length}
use Rattle.std.specs.Prelude.{if◌then◌else◌}
use Rattle.dm_model.specs.Scores.{weight}
use Rattle.dm_model.specs.Tests.{is_among}
use Rattle.dm_placement.proofs.Totals.{total}
use Rattle.dm_placement.proofs.Tallies.{Tallied, is_home, stays}
use Rattle.dm_placement.proofs.loads.Loads.new.Given as goal

abbrev pub invariant-loop-index : goal.invariant-loop-index
invariant-loop-index l = record {
  held : Tallied (λ site. 0) (is_home l.homes) (weight l.window) l.held l.index;
  others : Tallied (λ site. 0) (stays l.wanted l.homes) (weight l.window) l.others l.index;
  moving : l.moving ≡ total (λ p. if is_among l.wanted p then weight l.window p else 0) l.index;
  held_bound : (k : ℕ) → get_or l.held k 0 ≤ 256 * l.index;
  others_bound : (k : ℕ) → get_or l.others k 0 ≤ 256 * l.index;
  held_length : length l.held ≡ 8;
  others_length : length l.others ≡ 8;
  moving_bound : l.moving ≤ 256 * l.index;
}
