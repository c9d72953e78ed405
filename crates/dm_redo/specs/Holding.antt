-- What a log file holds.
use Rattle.std.specs.Prelude.{◌≡◌, ◌≢◌, ◌⊎◌, ℕ, ◌+◌, List, [], ◌∷◌, ◌++◌, length, take, drop}
use Rattle.dm_logdisk.specs.Story.{Story, bytes_of, EachImage}

-- the frames, each after an open gate
abbrev pub framed : List (List ℕ) → List ℕ
framed [] = []
framed (frame ∷ frames) = 1 ∷ (frame ++ framed frames)

-- The log ends where the file does, or at a closed gate. A gate byte that is the file's last is closed, whatever it is.
abbrev pub IsEnd : List ℕ → Type 0
IsEnd [] = Unit {0}
IsEnd (gate ∷ []) = Unit {0}
IsEnd (gate ∷ next ∷ rest) = gate ≢ 1

-- the file holds these frames: they stand in it, and then the log ends
abbrev pub Holds : List (List ℕ) → List ℕ → Type 0
Holds frames bytes = (rest : List ℕ) × (bytes ≡ framed frames ++ rest) × IsEnd rest

-- the frames stand in the file, and the log ends at that place
pub record Stands (frames : List (List ℕ)) (gate : ℕ) (s : Story) : Type 0 where
  pub rest : List ℕ
  pub reads : bytes_of s ≡ framed frames ++ rest
  pub ends : IsEnd rest
  pub place : gate ≡ length (framed frames)

-- the disk reads as these frames and one closed gate, which stands at that place
pub record IsAt (frames : List (List ℕ)) (gate : ℕ) (s : Story) : Type 0 where
  pub reads : bytes_of s ≡ framed frames ++ 0 ∷ []
  pub place : gate ≡ length (framed frames)

-- The frames and the closed gate have nothing pending. Bytes past it may be pending.
abbrev pub IsFirm : List (List ℕ) → Story → Type 0
IsFirm frames s = EachImage (λ c. (tail : List ℕ) × (c ≡ framed frames ++ 0 ∷ tail)) s

-- the file holds the frames, with one more or without it
abbrev pub IsBeforeOrAfter : List (List ℕ) → List ℕ → List ℕ → Type 0
IsBeforeOrAfter frames frame bytes = Holds frames bytes ⊎ Holds (frames ++ frame ∷ []) bytes

-- right behind the gate byte at that place stands the frame, and right behind it a closed gate
abbrev pub HasFrame : ℕ → List ℕ → List ℕ → Type 0
HasFrame gate frame bytes = (length (take gate bytes) ≡ gate) × (take (length frame + 1) (drop (gate + 1) bytes) ≡ frame ++ 0 ∷ [])
