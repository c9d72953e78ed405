-- The record that a disk in memory keeps.
use Rattle.std.specs.Prelude.{ℕ, ◌+◌, Bool, false, List, [], ◌∷◌, take, drop}
use Rattle.dm_logdisk.specs.declared.memory.Kept.{Kept}
use Rattle.dm_logdisk.specs.declared.memory.Kept.TheVariants as kept
use Rattle.dm_logdisk.specs.Story.{Change, Story, opened, noted, wrote, cut_to, synced}

-- the change that it stands for, where its piece stands at the front
abbrev pub change_of : Kept → List ℕ → Change
change_of (kept.Wrote at len effect) pieces = wrote at (take len pieces) effect
change_of (kept.Cut len effect) pieces = cut_to len effect
change_of (kept.Synced effect) pieces = synced effect

-- how long its piece is
abbrev pub size_of : Kept → ℕ
size_of (kept.Wrote at len effect) = len
size_of (kept.Cut len effect) = 0
size_of (kept.Synced effect) = 0

-- whether it is a sync that had its effect
abbrev pub is_sync : Kept → Bool
is_sync (kept.Wrote at len effect) = false
is_sync (kept.Cut len effect) = false
is_sync (kept.Synced effect) = effect

-- a story that goes on through these changes, the earliest first; the pieces that were written stand one after the other
abbrev pub story_from : Story → List Kept → List ℕ → Story
story_from s [] pieces = s
story_from s (kept.Wrote at len effect ∷ changes) pieces = story_from (noted (wrote at (take len pieces) effect) s) changes (drop len pieces)
story_from s (kept.Cut len effect ∷ changes) pieces = story_from (noted (cut_to len effect) s) changes pieces
story_from s (kept.Synced effect ∷ changes) pieces = story_from (noted (synced effect) s) changes pieces

-- how long the pieces of the changes are
abbrev pub total : List Kept → ℕ
total [] = 0
total (kept.Wrote at len effect ∷ changes) = len + total changes
total (kept.Cut len effect ∷ changes) = total changes
total (kept.Synced effect ∷ changes) = total changes

-- what stood there at first: before any change, what stands there now
abbrev pub first_of : List Kept → List ℕ → List ℕ → List ℕ
first_of [] first bytes = bytes
first_of (change ∷ changes) first bytes = first

abbrev pub story_of : List ℕ → List Kept → List ℕ → List ℕ → Story
story_of first changes pieces bytes = story_from (opened (first_of changes first bytes)) changes pieces
