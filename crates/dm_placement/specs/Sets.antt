-- The window of the last sets of partitions.
use Rattle.std.specs.Prelude.{ℕ, List, [], ◌∷◌, ◌++◌}
use Rattle.circular_buffer.specs.Buffer.{keep_last}
use Rattle.dm_event.specs.declared.limits.TheConstants.{WINDOW}

-- the last sets, once one more is noted
abbrev pub noted : List (List ℕ) → List ℕ → List (List ℕ)
noted sets set = keep_last WINDOW (sets ++ set ∷ [])
