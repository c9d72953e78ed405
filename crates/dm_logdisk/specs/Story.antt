-- What a disk has gone through since it was opened, and what it may hold after a crash.
use Rattle.std.specs.Prelude.{◌≡◌, ◌⊎◌, ℕ, ◌+◌, ◌-◌, ◌≤◌, max, min, Bool, true, false, if◌then◌else◌, List, [], ◌∷◌, ◌++◌, length, take, drop, replicate, Option, Some, None}

-- a call that changes a disk, with whether it had its effect
pub data Change : Type 0 where
  wrote : ℕ → List ℕ → Bool → Change
  cut_to : ℕ → Bool → Change
  synced : Bool → Change

-- a disk that was opened with these bytes, all of them durable; and a disk after one change more
pub data Story : Type 0 where
  opened : List ℕ → Story
  noted : Change → Story → Story

-- the bytes, filled up with zeros to that length
abbrev pub filled : List ℕ → ℕ → List ℕ
filled bytes end = bytes ++ replicate (end - length bytes) 0

-- the bytes with a piece written over them
abbrev pub overwritten : ℕ → List ℕ → List ℕ → List ℕ
overwritten at piece bytes = take at (filled bytes (at + length piece)) ++ piece ++ drop (at + length piece) (filled bytes (at + length piece))

-- what a read gives after a change
abbrev pub changed : Change → List ℕ → List ℕ
changed (wrote at piece effect) bytes = if effect then overwritten at piece bytes else bytes
changed (cut_to len effect) bytes = if effect then take len bytes else bytes
changed (synced effect) bytes = bytes

-- what a read gives
abbrev pub bytes_of : Story → List ℕ
bytes_of (opened bytes) = bytes
bytes_of (noted change s) = changed change (bytes_of s)

-- A write of so many bytes was cut short: any bytes may stand in its range and past the old end. The others stay.
pub record Torn (at n : ℕ) (old new : List ℕ) : Type 0 where
  pub before : take (min at (length old)) new ≡ take at old
  pub after : drop (at + n) (take (length old) new) ≡ drop (at + n) old
  pub no_shorter : length old ≤ length new
  pub no_longer : length new ≤ max (length old) (at + n)

-- what a crash may leave after a change, where `before` is what one might have left before it and `bytes` what a read gave
abbrev pub Leaves : Change → (List ℕ → Type 0) → List ℕ → List ℕ → Type 0
Leaves (wrote at piece effect) before bytes c = (d : List ℕ) × before d × Torn at (length piece) d c
Leaves (cut_to len effect) before bytes c = before c ⊎ ((d : List ℕ) × before d × (c ≡ take len d))
Leaves (synced true) before bytes c = c ≡ bytes
Leaves (synced false) before bytes c = before c

-- what a crash now may leave
abbrev pub IsImage : Story → List ℕ → Type 0
IsImage (opened bytes) c = c ≡ bytes
IsImage (noted change s) c = Leaves change (IsImage s) (bytes_of s) c

-- a crash now leaves what has P
abbrev pub EachImage : (List ℕ → Type 0) → Story → Type 0
EachImage P s = (c : List ℕ) → IsImage s c → P c

-- the story after these changes, the latest first
abbrev pub after : List Change → Story → Story
after [] s = s
after (change ∷ changes) s = noted change (after changes s)

-- a crash at any moment from the story on, through these changes, leaves what has P
abbrev pub EachMoment : (List ℕ → Type 0) → List Change → Story → Type 0
EachMoment P [] s = EachImage P s
EachMoment P (change ∷ changes) s = EachMoment P changes s × EachImage P (after (change ∷ changes) s)

-- One story goes on to the other, and a crash at any moment from the one to the other leaves what has P.
abbrev pub LeavesOnly : (List ℕ → Type 0) → Story → Story → Type 0
LeavesOnly P old new = (changes : List Change) × (new ≡ after changes old) × EachMoment P changes old

-- a read gives what a crash leaves
abbrev pub IsDurable : Story → Type 0
IsDurable s = EachImage (λ c. c ≡ bytes_of s) s

-- both tell, and R holds of what they tell; or neither tells
abbrev pub Both : (Story → Story → Type 0) → Option Story → Option Story → Type 0
Both R None None = Unit {0}
Both R None (Some new) = ⊥
Both R (Some old) None = ⊥
Both R (Some old) (Some new) = R old new
