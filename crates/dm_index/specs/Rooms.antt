-- For how many further entries of an origin there is room.
use Rattle.std.specs.Global.{Global}
use Rattle.std.specs.Prelude.{ℕ, ◌-◌, ◌==◌, ◌≤◌, if◌then◌else◌, List, Option, Some, None, length, map, slice_index, vec_len, vec_capacity, Vec}
use Rattle.dm_event.specs.declared.step.Entry.{Entry}
use Rattle.dm_index.specs.Places.{Places}

-- of each list of places, for how many more it has room
abbrev pub rooms_of : List (Vec ℕ Global) → List ℕ
rooms_of lists = map (λ v. vec_capacity v - vec_len v) lists

abbrev pub room_at : List ℕ → ℕ → ℕ
room_at rooms i = slice_index rooms i

-- how many places the entry takes in the list
abbrev pub takes : ℕ → Option Entry → ℕ
takes i None = 0
takes i (Some e) = if i == e.origin - 1 then 1 else 0

-- there is a list for the entry, with room
pub record HasRoom (lists : List (Vec ℕ Global)) (e : Entry) : Type 0 where
  pub one : 1 ≤ e.origin
  pub inside : e.origin ≤ length lists
  pub room : 1 ≤ room_at (rooms_of lists) (e.origin - 1)

-- the same, of what the index shows
pub record CanTake (p : Places) (e : Entry) : Type 0 where
  pub one : 1 ≤ e.origin
  pub inside : e.origin ≤ length p.entries
  pub room : 1 ≤ room_at p.rooms (e.origin - 1)
