-- What an append does.
use Rattle.std.specs.Prelude.{ℕ, ◌+◌, List, [], ◌∷◌, ◌++◌, length}
use Rattle.dm_redo.specs.declared.appending.Appended.{Appended}
use Rattle.dm_redo.specs.declared.appending.Appended.TheVariants.{Done, Undone, Doubt}
use Rattle.dm_logdisk.specs.Story.{Story, bytes_of, EachImage, IsDurable, LeavesOnly}
use Rattle.dm_redo.specs.Holding.{IsAt, IsFirm, Holds, IsBeforeOrAfter, HasFrame}

-- Done: the frame stands behind the others, and nothing is pending. Undone: the file holds the others alone. Doubt: the frame stands
-- behind its gate in whatever a crash leaves, and the gate may be open or closed.
abbrev pub Ends : List (List ℕ) → ℕ → List ℕ → Appended → Story → Story → Type 0
Ends frames gate frame Done old new = IsAt (frames ++ frame ∷ []) (gate + length frame + 1) new × IsDurable new
Ends frames gate frame Undone old new = Holds frames (bytes_of new) × (IsFirm frames old → EachImage (Holds frames) new)
Ends frames gate frame Doubt old new = EachImage (HasFrame gate frame) new

-- an append at that gate, over a log that stands at these frames
pub record Appends (gate : ℕ) (frame : List ℕ) (result : Appended) (old new : Story) : Type 0 where
  -- a crash at any moment inside it leaves the frames before it, with the new one or without
  pub crash : (frames : List (List ℕ)) → IsAt frames gate old → IsFirm frames old → LeavesOnly (IsBeforeOrAfter frames frame) old new
  pub ends : (frames : List (List ℕ)) → IsAt frames gate old → Ends frames gate frame result old new
