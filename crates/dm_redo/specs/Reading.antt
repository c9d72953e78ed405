-- Reading a whole file.
use Rattle.std.specs.Prelude.{◌≡◌, ℕ, List, length}

-- a buffer as long as the file is filled with it
abbrev pub ReadsAll : List ℕ → List ℕ → List ℕ → ℕ → Type 0
ReadsAll bytes old new n = length old ≡ length bytes → (n ≡ length bytes) × (new ≡ bytes)
