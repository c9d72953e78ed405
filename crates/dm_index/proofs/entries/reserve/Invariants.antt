use Rattle.std.proofs.Common.{◌≡◌, ◌<◌, ◌≤◌, ℕ, Vec, Global, map}
use Rattle.dm_index.proofs.entries.reserve.Given as goal
use Rattle.dm_index.specs.Rooms.{rooms_of, room_at}

abbrev pub invariant-loop-i : goal.invariant-loop-i
invariant-loop-i l = record {
  all : (k : ℕ) → k < l.i → l.count ≤ room_at (rooms_of l.places) k;
  items : map (λ (v : Vec ℕ Global). v.items) l.places ≡ map (λ (v : Vec ℕ Global). v.items) l.initial.places;
  room : (k : ℕ) → room_at (rooms_of l.initial.places) k ≤ room_at (rooms_of l.places) k;
}
