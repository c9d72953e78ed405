-- One change more joins a record.
use Rattle.std.proofs.Common.{◌≡◌, refl, sym, ◌∙◌, ap, subst, ℕ, zero, suc, ◌*◌, ◌<◌, ◌+◌, ◌-◌, ◌≤◌, Bool, List, [], ◌∷◌, ◌++◌, length, take, drop, replicate, arith, length-drop}
use Rattle.std.proofs.lemmas.List.{append-nil, length-append, length-replicate, take-append-le, drop-append-le, take_all, drop_all}
use Rattle.dm_logdisk.specs.declared.memory.Kept.{Kept}
use Rattle.dm_logdisk.specs.declared.memory.Kept.TheVariants as kept
use Rattle.dm_logdisk.specs.Story.{Story, opened, noted, wrote, cut_to, synced, filled, overwritten}
use Rattle.dm_logdisk.specs.Kept.{story_from, story_of, first_of, total}

no_bytes : (pieces : List ℕ) → 0 ≡ length pieces → pieces ≡ []
no_bytes [] e = refl
no_bytes (x ∷ xs) e = absurd (omega arith)

pub pushed_write : (s : Story) (changes : List Kept) (pieces piece : List ℕ) (at : ℕ) (effect : Bool) → total changes ≡ length pieces
    → story_from s (changes ++ kept.Wrote at (length piece) effect ∷ []) (pieces ++ piece) ≡ noted (wrote at piece effect) (story_from s changes pieces)
pushed_write s [] [] piece at effect e = ap (λ (p : List ℕ). noted (wrote at p effect) s) (take_all (length piece) piece (omega arith))
pushed_write s [] (x ∷ xs) piece at effect e = absurd (omega arith)
pushed_write s (kept.Wrote a n f ∷ changes) pieces piece at effect e =
    ap (λ (p : List ℕ). story_from (noted (wrote a p f) s) (changes ++ kept.Wrote at (length piece) effect ∷ []) (drop n (pieces ++ piece)))
    (take-append-le n pieces piece (omega arith))
    ∙ ap (λ (p : List ℕ). story_from (noted (wrote a (take n pieces) f) s) (changes ++ kept.Wrote at (length piece) effect ∷ []) p)
    (drop-append-le n pieces piece (omega arith))
    ∙ pushed_write (noted (wrote a (take n pieces) f) s) changes (drop n pieces) piece at effect (omega (arith, length-drop n pieces))
pushed_write s (kept.Cut n f ∷ changes) pieces piece at effect e = pushed_write (noted (cut_to n f) s) changes pieces piece at effect e
pushed_write s (kept.Synced f ∷ changes) pieces piece at effect e = pushed_write (noted (synced f) s) changes pieces piece at effect e

pub pushed_cut : (s : Story) (changes : List Kept) (pieces : List ℕ) (len : ℕ) (effect : Bool) → story_from s (changes ++ kept.Cut len effect ∷ []) pieces
    ≡ noted (cut_to len effect) (story_from s changes pieces)
pushed_cut s [] pieces len effect = refl
pushed_cut s (kept.Wrote a n f ∷ changes) pieces len effect = pushed_cut (noted (wrote a (take n pieces) f) s) changes (drop n pieces) len effect
pushed_cut s (kept.Cut n f ∷ changes) pieces len effect = pushed_cut (noted (cut_to n f) s) changes pieces len effect
pushed_cut s (kept.Synced f ∷ changes) pieces len effect = pushed_cut (noted (synced f) s) changes pieces len effect

pub pushed_sync : (s : Story) (changes : List Kept) (pieces : List ℕ) (effect : Bool) → story_from s (changes ++ kept.Synced effect ∷ []) pieces
    ≡ noted (synced effect) (story_from s changes pieces)
pushed_sync s [] pieces effect = refl
pushed_sync s (kept.Wrote a n f ∷ changes) pieces effect = pushed_sync (noted (wrote a (take n pieces) f) s) changes (drop n pieces) effect
pushed_sync s (kept.Cut n f ∷ changes) pieces effect = pushed_sync (noted (cut_to n f) s) changes pieces effect
pushed_sync s (kept.Synced f ∷ changes) pieces effect = pushed_sync (noted (synced f) s) changes pieces effect

pub first_pushed : (changes : List Kept) (change : Kept) (first bytes : List ℕ) → first_of (changes ++ change ∷ []) first bytes ≡ first
first_pushed [] change first bytes = refl
first_pushed (c ∷ changes) change first bytes = refl

pub total_write : (changes : List Kept) (at len : ℕ) (effect : Bool) → total (changes ++ kept.Wrote at len effect ∷ []) ≡ total changes + len
total_write [] at len effect = omega arith
total_write (kept.Wrote a n f ∷ changes) at len effect = omega (arith, total_write changes at len effect)
total_write (kept.Cut n f ∷ changes) at len effect = total_write changes at len effect
total_write (kept.Synced f ∷ changes) at len effect = total_write changes at len effect

pub total_cut : (changes : List Kept) (len : ℕ) (effect : Bool) → total (changes ++ kept.Cut len effect ∷ []) ≡ total changes
total_cut [] len effect = refl
total_cut (kept.Wrote a n f ∷ changes) len effect = ap (λ (k : ℕ). n + k) (total_cut changes len effect)
total_cut (kept.Cut n f ∷ changes) len effect = total_cut changes len effect
total_cut (kept.Synced f ∷ changes) len effect = total_cut changes len effect

pub total_sync : (changes : List Kept) (effect : Bool) → total (changes ++ kept.Synced effect ∷ []) ≡ total changes
total_sync [] effect = refl
total_sync (kept.Wrote a n f ∷ changes) effect = ap (λ (k : ℕ). n + k) (total_sync changes effect)
total_sync (kept.Cut n f ∷ changes) effect = total_sync changes effect
total_sync (kept.Synced f ∷ changes) effect = total_sync changes effect

module _ (first : List ℕ) (changes : List Kept) (pieces bytes new_bytes : List ℕ) (copied : first_of changes first bytes ≡ first) where
  pub kept_write : (at : ℕ) (piece : List ℕ) (effect : Bool) → total changes ≡ length pieces
      → story_of first (changes ++ kept.Wrote at (length piece) effect ∷ []) (pieces ++ piece) new_bytes ≡ noted (wrote at piece effect)
      (story_of first changes pieces bytes)
  kept_write at piece effect sizes =
      ap (λ (f : List ℕ). story_from (opened f) (changes ++ kept.Wrote at (length piece) effect ∷ []) (pieces ++ piece))
      (first_pushed changes _ first new_bytes)
      ∙ pushed_write (opened first) changes pieces piece at effect sizes
      ∙ ap (λ (f : List ℕ). noted (wrote at piece effect) (story_from (opened f) changes pieces)) (sym copied)

  pub kept_cut : (len : ℕ) (effect : Bool) → story_of first (changes ++ kept.Cut len effect ∷ []) pieces new_bytes ≡ noted (cut_to len effect)
      (story_of first changes pieces bytes)
  kept_cut len effect =
      ap (λ (f : List ℕ). story_from (opened f) (changes ++ kept.Cut len effect ∷ []) pieces) (first_pushed changes _ first new_bytes)
      ∙ pushed_cut (opened first) changes pieces len effect
      ∙ ap (λ (f : List ℕ). noted (cut_to len effect) (story_from (opened f) changes pieces)) (sym copied)

  pub kept_sync : (effect : Bool) → story_of first (changes ++ kept.Synced effect ∷ []) pieces new_bytes
      ≡ noted (synced effect) (story_of first changes pieces bytes)
  kept_sync effect =
      ap (λ (f : List ℕ). story_from (opened f) (changes ++ kept.Synced effect ∷ []) pieces) (first_pushed changes _ first new_bytes)
      ∙ pushed_sync (opened first) changes pieces effect
      ∙ ap (λ (f : List ℕ). noted (synced effect) (story_from (opened f) changes pieces)) (sym copied)

-- one call fewer, and one piece more
pub room_left : (len size calls reach cap : ℕ) → 0 < calls → size ≤ reach → len + calls * reach ≤ cap → len + size + (calls - 1) * reach ≤ cap
room_left len size zero reach cap some fits room = absurd (omega arith)
room_left len size (suc calls) reach cap some fits room =
    let one : suc calls * reach ≡ reach + calls * reach = grind arith in
    let less : suc calls - 1 ≡ calls = omega arith in
    let left : len + size + calls * reach ≤ cap = omega (arith, one, fits, room) in
    subst (λ (k : ℕ). len + size + k * reach ≤ cap) (sym less) left

-- a write that begins at the end
pub overwritten_end : (at : ℕ) (piece bytes : List ℕ) → at ≡ length bytes → bytes ++ piece ≡ overwritten at piece bytes
overwritten_end at piece bytes e =
    let end = at + length piece in
    let file : List ℕ = filled bytes end in
    let long = length-append bytes (replicate (end - length bytes) 0) ∙ ap (λ (n : ℕ). length bytes + n) (length-replicate {A = ℕ} (end - length bytes) 0) in
    let front : take at file ≡ bytes = take-append-le at bytes _ (omega arith) ∙ take_all at bytes (omega arith) in
    let rest : drop end file ≡ [] = drop_all end file (omega (arith, long)) in
    sym (ap (λ (l : List ℕ). l ++ piece ++ drop end file) front ∙ ap (λ (l : List ℕ). bytes ++ piece ++ l) rest ∙ append-nil (bytes ++ piece))
