-- From what the disk notes to what an append does, whether the disk tells or not.
use Rattle.std.proofs.Common.{◌≡◌, subst, ℕ, ◌+◌, Bool, true, List, [], ◌∷◌, ◌++◌}
use Rattle.std.specs.Prelude.{Option, option_map}
use Rattle.dm_logdisk.specs.Story.{Change, wrote, synced, Story, noted, Both}
use Rattle.dm_logdisk.proofs.Images.{Goes, goes_not, goes_on, both_goes}
use Rattle.dm_redo.specs.Appending.{Appends}
use Rattle.dm_redo.specs.declared.appending.Appended.TheVariants.{Done, Undone, Doubt}
use Rattle.dm_redo.proofs.Stages.{body, opening, undone_write, undone_sync, doubt_write, doubt_sync, done_sync}

-- a change is noted with this effect, where the disk tells
abbrev pub Noted : (Bool → Change) → Bool → Option Story → Option Story → Type 0
Noted change effect old new = new ≡ option_map (λ s. noted (change effect) s) old

pub goes_true : (changes : List Change) (change : Bool → Change) (effect : Bool) (old mid new : Option Story) → Goes changes old mid
    → Noted change effect mid new → effect ≡ true → Goes (change true ∷ changes) old new
goes_true changes change effect old mid new goes is has = goes_on changes (change true) old mid new goes (subst (λ (e : Bool). Noted change e mid new) has is)

module _ (gate : ℕ) (frame piece : List ℕ) (whole : piece ≡ frame ++ 0 ∷ []) (o a b c d : Option Story) (e1 e2 e3 e4 : Bool) where
  abbrev First : Type 0
  First = Noted (wrote (gate + 1) piece) e1 o a

  first : First → Noted (body gate frame) e1 o a
  first is = subst (λ (p : List ℕ). Noted (wrote (gate + 1) p) e1 o a) whole is

  pub undone_1 : First → Both (Appends gate frame Undone) o a
  undone_1 is =
      both_goes (Appends gate frame Undone) (body gate frame e1 ∷ []) o a (goes_on [] (body gate frame e1) o o a (goes_not o) (first is))
      (undone_write gate frame e1)

  gone_1 : First → e1 ≡ true → Goes (body gate frame true ∷ []) o a
  gone_1 is has = goes_true [] (body gate frame) e1 o o a (goes_not o) (first is) has

  pub undone_2 : First → e1 ≡ true → Noted synced e2 a b → Both (Appends gate frame Undone) o b
  undone_2 is has then_2 =
      both_goes (Appends gate frame Undone) (synced e2 ∷ body gate frame true ∷ []) o b
      (goes_on (body gate frame true ∷ []) (synced e2) o a b (gone_1 is has) then_2) (undone_sync gate frame e2)

  gone_2 : First → e1 ≡ true → Noted synced e2 a b → e2 ≡ true → Goes (synced true ∷ body gate frame true ∷ []) o b
  gone_2 is has then_2 has_2 = goes_true (body gate frame true ∷ []) synced e2 o a b (gone_1 is has) then_2 has_2

  pub doubt_3 : First → e1 ≡ true → Noted synced e2 a b → e2 ≡ true → Noted (wrote gate (1 ∷ [])) e3 b c → Both (Appends gate frame Doubt) o c
  doubt_3 is has then_2 has_2 then_3 =
      both_goes (Appends gate frame Doubt) (opening gate frame e3 ∷ synced true ∷ body gate frame true ∷ []) o c
      (goes_on (synced true ∷ body gate frame true ∷ []) (opening gate frame e3) o b c (gone_2 is has then_2 has_2) then_3) (doubt_write gate frame e3)

  gone_3 : First → e1 ≡ true → Noted synced e2 a b → e2 ≡ true → Noted (wrote gate (1 ∷ [])) e3 b c → e3 ≡ true
      → Goes (opening gate frame true ∷ synced true ∷ body gate frame true ∷ []) o c
  gone_3 is has then_2 has_2 then_3 has_3 =
      goes_true (synced true ∷ body gate frame true ∷ []) (opening gate frame) e3 o b c (gone_2 is has then_2 has_2) then_3 has_3

  pub doubt_4 : First → e1 ≡ true → Noted synced e2 a b → e2 ≡ true → Noted (wrote gate (1 ∷ [])) e3 b c → e3 ≡ true → Noted synced e4 c d
      → Both (Appends gate frame Doubt) o d
  doubt_4 is has then_2 has_2 then_3 has_3 then_4 =
      both_goes (Appends gate frame Doubt) (synced e4 ∷ opening gate frame true ∷ synced true ∷ body gate frame true ∷ []) o d
      (goes_on (opening gate frame true ∷ synced true ∷ body gate frame true ∷ []) (synced e4) o c d (gone_3 is has then_2 has_2 then_3 has_3) then_4)
      (doubt_sync gate frame e4)

  pub done_4 : First → e1 ≡ true → Noted synced e2 a b → e2 ≡ true → Noted (wrote gate (1 ∷ [])) e3 b c → e3 ≡ true → Noted synced e4 c d → e4 ≡ true
      → Both (Appends gate frame Done) o d
  done_4 is has then_2 has_2 then_3 has_3 then_4 has_4 =
      both_goes (Appends gate frame Done) (synced true ∷ opening gate frame true ∷ synced true ∷ body gate frame true ∷ []) o d
      (goes_true (opening gate frame true ∷ synced true ∷ body gate frame true ∷ []) synced e4 o c d (gone_3 is has then_2 has_2 then_3 has_3) then_4 has_4)
      (done_sync gate frame)
