-- What is found from a record of changes.
use Rattle.std.proofs.Common.{◌≡◌, refl, sym, ◌∙◌, ap, subst, ℕ, zero, suc, ◌+◌, ◌-◌, ◌≤◌, ◌<◌, Bool, true, false, not, if◌then◌else◌, List, [], ◌∷◌, ◌++◌, length, take, drop, get_or, arith}
use Rattle.std.proofs.lemmas.Bool.{false≢true}
use Rattle.std.proofs.lemmas.List.{same_lists, places, drop_all}
use Rattle.dm_logdisk.specs.declared.memory.Kept.{Kept}
use Rattle.dm_logdisk.specs.declared.memory.Kept.TheVariants as kept
use Rattle.dm_logdisk.specs.declared.crashing.Pick.{Pick}
use Rattle.dm_logdisk.specs.declared.crashing.Pick.TheVariants as pick
use Rattle.dm_logdisk.specs.Story.{Story, changed, opened, noted, wrote, cut_to, synced, bytes_of, IsImage}
use Rattle.dm_logdisk.specs.Kept.{story_from, total, change_of, size_of, is_sync}
use Rattle.dm_logdisk.specs.Picks.{kept_of, picked, mixed}
use Rattle.dm_logdisk.proofs.Images.{read_is_image}
use Rattle.dm_logdisk.proofs.Picked.{kept_is_image, torn_is_image}

pub picked_is_image : (p : Pick) (s : Story) → IsImage s (picked p s)
picked_is_image pick.Kept s = kept_is_image s
picked_is_image pick.Read s = read_is_image s
picked_is_image pick.Torn s = torn_is_image s

pub given_is_image : (p : Pick) (s : Story) (bytes : List ℕ) → bytes ≡ picked p s → IsImage s bytes
given_is_image p s bytes is = subst (IsImage s) (sym is) (picked_is_image p s)

-- the first of so many changes need no more pieces
pub total_take : (n : ℕ) (changes : List Kept) → total (take n changes) ≤ total changes
total_take zero changes = omega arith
total_take (suc n) [] = omega arith
total_take (suc n) (kept.Wrote at len effect ∷ changes) = omega (arith, total_take n changes)
total_take (suc n) (kept.Cut len effect ∷ changes) = total_take n changes
total_take (suc n) (kept.Synced effect ∷ changes) = total_take n changes

-- Another change than a sync with its effect leaves the kept bytes.
pub kept_on : (s : Story) (changes : List Kept) (change : Kept) (pieces : List ℕ) → is_sync change ≡ false
    → kept_of (story_from s (changes ++ change ∷ []) pieces) ≡ kept_of (story_from s changes pieces)
kept_on s [] (kept.Wrote at len effect) pieces not = refl
kept_on s [] (kept.Cut len effect) pieces not = refl
kept_on s [] (kept.Synced effect) pieces not = ap (λ (e : Bool). kept_of (noted (synced e) s)) not
kept_on s (kept.Wrote a n f ∷ changes) change pieces not = kept_on (noted (wrote a (take n pieces) f) s) changes change (drop n pieces) not
kept_on s (kept.Cut n f ∷ changes) change pieces not = kept_on (noted (cut_to n f) s) changes change pieces not
kept_on s (kept.Synced f ∷ changes) change pieces not = kept_on (noted (synced f) s) changes change pieces not

-- A sync with its effect keeps what a read gives.
pub kept_now : (s : Story) (changes : List Kept) (change : Kept) (pieces : List ℕ) → is_sync change ≡ true
    → kept_of (story_from s (changes ++ change ∷ []) pieces) ≡ bytes_of (story_from s (changes ++ change ∷ []) pieces)
kept_now s [] (kept.Wrote at len effect) pieces is = absurd (false≢true is)
kept_now s [] (kept.Cut len effect) pieces is = absurd (false≢true is)
kept_now s [] (kept.Synced effect) pieces is = ap (λ (e : Bool). kept_of (noted (synced e) s)) is
kept_now s (kept.Wrote a n f ∷ changes) change pieces is = kept_now (noted (wrote a (take n pieces) f) s) changes change (drop n pieces) is
kept_now s (kept.Cut n f ∷ changes) change pieces is = kept_now (noted (cut_to n f) s) changes change pieces is
kept_now s (kept.Synced f ∷ changes) change pieces is = kept_now (noted (synced f) s) changes change pieces is

-- so many changes, of which this is the last
taken : (n : ℕ) (changes : List Kept) (d : Kept) → 0 < n → n ≤ length changes → take n changes ≡ take (n - 1) changes ++ get_or changes (n - 1) d ∷ []
taken n changes d some few = same_lists _ _ (grind (arith, places)) (λ k e h. grind (arith, places))

pub kept_back : (first : List ℕ) (changes : List Kept) (d : Kept) (n : ℕ) (pieces : List ℕ) → 0 < n → n ≤ length changes
    → is_sync (get_or changes (n - 1) d) ≡ false
    → kept_of (story_from (opened first) (take n changes) pieces) ≡ kept_of (story_from (opened first) (take (n - 1) changes) pieces)
kept_back first changes d n pieces some few not =
    ap (λ (l : List Kept). kept_of (story_from (opened first) l pieces)) (taken n changes d some few)
    ∙ kept_on (opened first) (take (n - 1) changes) (get_or changes (n - 1) d) pieces not

pub kept_there : (first : List ℕ) (changes : List Kept) (d : Kept) (n : ℕ) (pieces : List ℕ) → 0 < n → n ≤ length changes
    → is_sync (get_or changes (n - 1) d) ≡ true
    → kept_of (story_from (opened first) (take n changes) pieces) ≡ bytes_of (story_from (opened first) (take n changes) pieces)
kept_there first changes d n pieces some few is =
    subst (λ (l : List Kept). kept_of (story_from (opened first) l pieces) ≡ bytes_of (story_from (opened first) l pieces)) (sym (taken n changes d some few))
    (kept_now (opened first) (take (n - 1) changes) (get_or changes (n - 1) d) pieces is)

pub kept_first : (first : List ℕ) (changes : List Kept) (n : ℕ) (pieces : List ℕ) → n ≡ 0
    → kept_of (story_from (opened first) (take n changes) pieces) ≡ bytes_of (story_from (opened first) (take n changes) pieces)
kept_first first changes n pieces is = subst (λ (m : ℕ). kept_of (story_from (opened first) (take m changes) pieces)
    ≡ bytes_of (story_from (opened first) (take m changes) pieces)) (sym is) refl

-- one change more
pub replay_on : (s : Story) (changes : List Kept) (d : Kept) (i : ℕ) (pieces : List ℕ) → i < length changes
    → story_from s (drop i changes) pieces
    ≡ story_from (noted (change_of (get_or changes i d) pieces) s) (drop (suc i) changes) (drop (size_of (get_or changes i d)) pieces)
replay_on s [] d i pieces h = absurd (omega (arith, h))
replay_on s (kept.Wrote at len effect ∷ changes) d zero pieces h = refl
replay_on s (kept.Cut len effect ∷ changes) d zero pieces h = refl
replay_on s (kept.Synced effect ∷ changes) d zero pieces h = refl
replay_on s (change ∷ changes) d (suc i) pieces h = replay_on s changes d i pieces (omega (arith, h))

pub total_on : (changes : List Kept) (d : Kept) (i : ℕ) → i < length changes
    → total (drop i changes) ≡ size_of (get_or changes i d) + total (drop (suc i) changes)
total_on [] d i h = absurd (omega (arith, h))
total_on (kept.Wrote at len effect ∷ changes) d zero h = refl
total_on (kept.Cut len effect ∷ changes) d zero h = omega arith
total_on (kept.Synced effect ∷ changes) d zero h = omega arith
total_on (change ∷ changes) d (suc i) h = total_on changes d i (omega (arith, h))

-- the next byte of a mixture
past_next : (odd : Bool) (read : List ℕ) (i : ℕ) → i < length read
    → mixed odd [] (drop i read) ≡ (if odd then 255 else get_or read i 0) ∷ mixed (not odd) [] (drop (suc i) read)
past_next odd [] i h = absurd (omega (arith, h))
past_next false (r ∷ read) zero h = refl
past_next true (r ∷ read) zero h = refl
past_next odd (r ∷ read) (suc i) h = past_next odd read i (omega (arith, h))

pub mixed_next : (odd : Bool) (kept read : List ℕ) (i : ℕ) → i < length read
    → mixed odd (drop i kept) (drop i read) ≡ (if odd then get_or kept i 255 else get_or read i 0) ∷ mixed (not odd) (drop (suc i) kept) (drop (suc i) read)
mixed_next odd [] read zero h = past_next odd read zero h
mixed_next odd [] read (suc i) h = past_next odd read (suc i) h
mixed_next odd (k ∷ kept) [] i h = absurd (omega (arith, h))
mixed_next false (k ∷ kept) (r ∷ read) zero h = refl
mixed_next true (k ∷ kept) (r ∷ read) zero h = refl
mixed_next odd (k ∷ kept) (r ∷ read) (suc i) h = mixed_next odd kept read i (omega (arith, h))

pub drop_more : (m n : ℕ) (pieces : List ℕ) → drop (m + n) pieces ≡ drop n (drop m pieces)
drop_more m n pieces = same_lists _ _ (grind (arith, places)) (λ k e h. grind (arith, places))

-- After so many changes, which used so many pieces, these are the bytes.
pub record Replays (first : List ℕ) (changes : List Kept) (pieces : List ℕ) (n done : ℕ) (bytes : List ℕ) : Type 0 where
  pub so_far : Story
  pub reads : bytes ≡ bytes_of so_far
  pub goes_on : story_from so_far (drop n changes) (drop done pieces) ≡ story_from (opened first) changes pieces
  pub fits : done + total (drop n changes) ≤ length pieces

pub replays_first : (first : List ℕ) (changes : List Kept) (pieces bytes : List ℕ) → bytes ≡ first → total changes ≤ length pieces
    → Replays first changes pieces 0 0 bytes
replays_first first changes pieces bytes same fits = record { so_far = opened first; reads = same; goes_on = refl; fits = omega (arith, fits) }

one_more : (n : ℕ) → suc n ≡ n + 1
one_more n = omega arith

pub replays_next : (first : List ℕ) (changes : List Kept) (pieces : List ℕ) (n done : ℕ) (bytes new : List ℕ) (d : Kept) (used : ℕ) → n < length changes
    → Replays first changes pieces n done bytes → new ≡ changed (change_of (get_or changes n d) (drop done pieces)) bytes
    → used ≡ size_of (get_or changes n d) → Replays first changes pieces (n + 1) (done + used) new
replays_next first changes pieces n done bytes new d used within before made size =
    subst (λ (m : ℕ). Replays first changes pieces m (done + used) new) (one_more n) (record {
      so_far = noted (change_of (get_or changes n d) (drop done pieces)) before.so_far;
      reads = made ∙ ap (λ (b : List ℕ). changed (change_of (get_or changes n d) (drop done pieces)) b) before.reads;
      goes_on =
          ap (λ (p : List ℕ). story_from (noted (change_of (get_or changes n d) (drop done pieces)) before.so_far) (drop (suc n) changes) p)
          (drop_more done used pieces ∙ ap (λ (k : ℕ). drop k (drop done pieces)) size)
          ∙ sym (replay_on before.so_far changes d n (drop done pieces) within) ∙ before.goes_on;
      fits = omega (arith, before.fits, size, total_on changes d n within);
    })

pub replays_last : (first : List ℕ) (changes : List Kept) (pieces bytes : List ℕ) (n done : ℕ) → length changes ≤ n → Replays first changes pieces n done bytes
    → bytes ≡ bytes_of (story_from (opened first) changes pieces)
replays_last first changes pieces bytes n done all so =
    so.reads ∙ ap bytes_of (ap (λ (l : List Kept). story_from so.so_far l (drop done pieces)) (sym (drop_all n changes all)) ∙ so.goes_on)
