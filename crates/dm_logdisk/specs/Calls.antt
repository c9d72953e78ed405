-- What the calls of a disk answer and do.
use Rattle.std.specs.Prelude.{◌≡◌, ℕ, ◌-◌, ◌≤◌, min, Bool, true, List, ◌++◌, length, take, drop, Option, option_map, Result, OnOk, IsErr}
use Rattle.dm_disk.specs.Faults.{Rose}
use Rattle.dm_logdisk.specs.Story.{Story, Change, noted}

-- The change is noted, where the disk tells. It had its effect, unless the call failed and it had none.
abbrev pub Notes : {E : Type 0} → (Bool → Change) → Result (Unit {0}) E → Option Story → Option Story → Type 0
Notes change result old new = (effect : Bool) × OnOk result (effect ≡ true) × (new ≡ option_map (λ s. noted (change effect) s) old)

-- the bytes from there up to the end of the buffer or of the disk
pub record Reads (bytes : List ℕ) (at : ℕ) (old new : List ℕ) (n : ℕ) : Type 0 where
  pub count : n ≡ min (length old) (length bytes - at)
  pub taken : new ≡ take n (drop at bytes) ++ drop n old

-- what a call says of faults
pub record Counts {A E : Type 0} (result : Result A E) (before now : ℕ) : Type 0 where
  pub later : before ≤ now
  pub cause : IsErr result → Rose before now
