use Rattle.std.proofs.Common.{ℕ, ◌≡◌, ◌+◌, ◌-◌, ◌^◌, ◌<◌, ◌≤◌, get_or, length}
use Rattle.std.specs.Prelude.{pos, negsuc, ◌≤ℤ◌}
use Rattle.dm_placement.specs.Scored.{score_in}
use Rattle.dm_placement.proofs.scoring.scores.Given as goal

abbrev pub invariant-loop-index : goal.invariant-loop-index
invariant-loop-index l = record {
  each : (k : ℕ) → k < l.index → get_or l.scores k (pos 0) ≡ score_in l.weights l.window l.homes l.vectors l.fn.wanted (k + 1);
  past : (k : ℕ) → l.index ≤ k → get_or l.scores k (pos 0) ≡ pos 0;
  bound : (k : ℕ) → (negsuc (2 ^ 99 - 2) ≤ℤ get_or l.scores k (pos 0)) × (get_or l.scores k (pos 0) ≤ℤ pos (2 ^ 56));
  eight : length l.scores ≡ 8;
}
