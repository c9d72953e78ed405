use Rattle.std.proofs.Common.{◌≡◌, ◌≤◌, ◌<◌, ℕ, get_or, max, length}
use Rattle.dm_event.proofs.vector.Vector.join.Given as goal

abbrev pub invariant-loop-i : goal.invariant-loop-i
invariant-loop-i l = record {
  count : l.self-inside.count ≡ l.initial.self-inside.count;
  eight : length l.self-inside.parts ≡ 8;
  done : (k : ℕ) → k < l.i → get_or l.self-inside.parts k 0 ≡ max (get_or l.initial.self-inside.parts k 0) (get_or l.other-inside.parts k 0);
  left : (k : ℕ) → l.i ≤ k → get_or l.self-inside.parts k 0 ≡ get_or l.initial.self-inside.parts k 0;
}
