-- A log, as its callers see it.
use Rattle.std.specs.Prelude.{ℕ, ◌+◌, ◌^◌, ◌<◌, ◌≤◌, Bool, List}
use Rattle.dm_record.specs.declared.record.Record.{Record}

pub record Log (D : Type 0) : Type 0 where
  pub disk : D
  -- where the closed gate stands, behind the last frame
  pub gate : ℕ
  -- how long a frame may be for which there is room
  pub ready : ℕ
  pub live : Bool
  -- those that the last load found
  pub records : List Record

-- room for the four calls of an append, up to the gate behind a frame of that length
abbrev pub HasRoom : ℕ → ℕ → ℕ → ℕ → Type 0
HasRoom calls reach gate ready = 0 < ready → (4 ≤ calls) × (gate + ready + 2 ≤ reach) × (gate + ready + 2 < 2 ^ 64)
