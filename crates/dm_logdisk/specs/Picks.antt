-- What a crash may leave, by picks.
use Rattle.std.specs.Prelude.{◌≡◌, ℕ, ◌<◌, ◌≤◌, ◌⊎◌, Bool, true, false, List, [], ◌∷◌, length}
use Rattle.std.proofs.Common.{get_or}
use Rattle.dm_logdisk.specs.declared.crashing.Pick.{Pick}
use Rattle.dm_logdisk.specs.declared.crashing.Pick.TheVariants as pick
use Rattle.dm_logdisk.specs.Story.{Story, opened, noted, wrote, cut_to, synced, bytes_of}

-- the content at the last sync that had its effect, at first the opening content
abbrev pub kept_of : Story → List ℕ
kept_of (opened bytes) = bytes
kept_of (noted (wrote at piece effect) s) = kept_of s
kept_of (noted (cut_to len effect) s) = kept_of s
kept_of (noted (synced true) s) = bytes_of s
kept_of (noted (synced false) s) = kept_of s

-- so long as what a read gives; each byte is the one that a read gives or the kept one, or stands past the kept ones
abbrev pub Mixes : List ℕ → List ℕ → List ℕ → Type 0
Mixes kept read c = (length c ≡ length read)
    × ((p : ℕ) → p < length read → (get_or c p 0 ≡ get_or read p 0) ⊎ (((p < length kept) × (get_or c p 0 ≡ get_or kept p 0)) ⊎ (length kept ≤ p)))

-- at even places what a read gives, at odd ones the kept bytes and ff past them
abbrev pub mixed : Bool → List ℕ → List ℕ → List ℕ
mixed odd kept [] = []
mixed false [] (r ∷ read) = r ∷ mixed true [] read
mixed false (k ∷ kept) (r ∷ read) = r ∷ mixed true kept read
mixed true [] (r ∷ read) = 255 ∷ mixed false [] read
mixed true (k ∷ kept) (r ∷ read) = k ∷ mixed false kept read

-- what a crash leaves, by the pick
abbrev pub picked : Pick → Story → List ℕ
picked pick.Kept s = kept_of s
picked pick.Read s = bytes_of s
picked pick.Torn s = mixed false (kept_of s) (bytes_of s)
