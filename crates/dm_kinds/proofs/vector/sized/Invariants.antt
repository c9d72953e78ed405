use Rattle.std.proofs.Common.{◌≡◌, ◌<◌, ℕ, length, get_or}
use Rattle.dm_kinds.proofs.vector.sized.Given as goal

abbrev pub invariant-loop-i : goal.invariant-loop-i
invariant-loop-i l = record {
  size : length l.vector ≡ length l.numbers;
  set : (k : ℕ) → k < l.i → get_or l.vector k 0 ≡ get_or l.numbers k 0;
}
