-- The four changes of an append, one after the other.
use Rattle.std.proofs.Common.{◌≡◌, inl, refl, sym, ◌∙◌, ap, subst, ℕ, ◌+◌, Bool, true, false, List, [], ◌∷◌, ◌++◌, length, drop, get_or, arith, length-append}
use Rattle.dm_logdisk.specs.Story.{Change, wrote, synced, Story, noted, overwritten, bytes_of, IsImage, EachImage, after, EachMoment, Torn}
use Rattle.dm_logdisk.proofs.Images.{sync_keeps}
use Rattle.dm_redo.specs.Holding.{framed, Holds, IsAt, IsFirm, IsBeforeOrAfter, HasFrame}
use Rattle.dm_redo.specs.Appending.{Appends}
use Rattle.dm_redo.specs.declared.appending.Appended.TheVariants.{Done, Undone, Doubt}
use Rattle.dm_redo.proofs.Places.{framed_push, holds_closed, holds_gate, torn_behind, torn_gate, written_behind, written_gate, has_frame}

module _ (gate : ℕ) (frame : List ℕ) where
  abbrev pub body : Bool → Change
  body effect = wrote (gate + 1) (frame ++ 0 ∷ []) effect

  abbrev pub opening : Bool → Change
  opening effect = wrote gate (1 ∷ []) effect

  -- the frame's write leaves the frames before it
  torn_holds : (frames : List (List ℕ)) (s : Story) (effect : Bool) → IsAt frames gate s → IsFirm frames s → EachImage (Holds frames) (noted (body effect) s)
  torn_holds frames s effect at firm c left =
      let was = firm left.0 left.1 in
      holds_closed frames (drop (gate + 1) c) c
      (torn_behind (framed frames) frame gate at.place was.0 c (subst (λ (d : List ℕ). Torn (gate + 1) (length (frame ++ 0 ∷ [])) d c) was.1 left.2))

  firm_holds : (frames : List (List ℕ)) (s : Story) → IsFirm frames s → EachImage (Holds frames) s
  firm_holds frames s firm c left = let was = firm c left in holds_closed frames was.0 c was.1

  body_read : (frames : List (List ℕ)) (s : Story) → IsAt frames gate s → bytes_of (noted (body true) s) ≡ framed frames ++ 0 ∷ (frame ++ 0 ∷ [])
  body_read frames s at = ap (λ (b : List ℕ). overwritten (gate + 1) (frame ++ 0 ∷ []) b) at.reads ∙ written_behind (framed frames) frame gate at.place

  body_reads : (frames : List (List ℕ)) (s : Story) (effect : Bool) → IsAt frames gate s → Holds frames (bytes_of (noted (body effect) s))
  body_reads frames s true at = holds_closed frames (frame ++ 0 ∷ []) _ (body_read frames s at)
  body_reads frames s false at = holds_closed frames [] _ at.reads

  weaker : (frames : List (List ℕ)) (s : Story) → EachImage (Holds frames) s → EachImage (IsBeforeOrAfter frames frame) s
  weaker frames s each c left = inl (each c left)

  -- the frame's write failed
  pub undone_write : (effect : Bool) (s : Story) → Appends gate frame Undone s (after (body effect ∷ []) s)
  undone_write effect s = record {
    crash =
        λ frames at firm. (
          body effect ∷ [],
          refl,
          (weaker frames s (firm_holds frames s firm), weaker frames (noted (body effect) s) (torn_holds frames s effect at firm)),
        );
    ends = λ frames at. (body_reads frames s effect at, λ firm. torn_holds frames s effect at firm);
  }

  -- the first sync failed
  pub undone_sync : (effect : Bool) (s : Story) → Appends gate frame Undone s (after (synced effect ∷ body true ∷ []) s)
  undone_sync effect s = record {
    crash = λ frames at firm.
        let torn = torn_holds frames s true at firm in (
          synced effect ∷ body true ∷ [],
          refl,
          (
            (weaker frames s (firm_holds frames s firm), weaker frames (noted (body true) s) torn),
            weaker frames
                (noted (synced effect) (noted (body true) s)) (sync_keeps (Holds frames) (noted (body true) s) effect torn),
          ),
        );
    ends = λ frames at. (body_reads frames s true at, λ firm. sync_keeps (Holds frames) (noted (body true) s) effect (torn_holds frames s true at firm));
  }

  -- the frame is durable, and then the gate is torn
  module _ (frames : List (List ℕ)) (s : Story) (at : IsAt frames gate s) where
    abbrev staged : Story
    staged = noted (synced true) (noted (body true) s)

    torn_opening : (effect : Bool) (c : List ℕ) → IsImage (noted (opening effect) staged) c → c ≡ framed frames ++ get_or c gate 0 ∷ (frame ++ 0 ∷ [])
    torn_opening effect c left =
        torn_gate (framed frames) frame gate at.place c (subst (λ (d : List ℕ). Torn gate 1 d c) (left.1 ∙ body_read frames s at) left.2)

    opening_counts : (effect : Bool) → EachImage (IsBeforeOrAfter frames frame) (noted (opening effect) staged)
    opening_counts effect c left = holds_gate frames (get_or c gate 0) frame c (torn_opening effect c left)

    opening_has : (effect : Bool) → EachImage (HasFrame gate frame) (noted (opening effect) staged)
    opening_has effect c left = has_frame (framed frames) frame gate at.place (get_or c gate 0) c (torn_opening effect c left)

    staged_holds : IsFirm frames s → EachImage (IsBeforeOrAfter frames frame) staged
    staged_holds firm = weaker frames staged (sync_keeps (Holds frames) (noted (body true) s) true (torn_holds frames s true at firm))

    staged_moments : IsFirm frames s → EachMoment (IsBeforeOrAfter frames frame) (synced true ∷ body true ∷ []) s
    staged_moments firm =
        ((weaker frames s (firm_holds frames s firm), weaker frames (noted (body true) s) (torn_holds frames s true at firm)), staged_holds firm)

    opened_reads : bytes_of (noted (opening true) staged) ≡ framed (frames ++ frame ∷ []) ++ 0 ∷ []
    opened_reads =
        ap (λ (b : List ℕ). overwritten gate (1 ∷ []) b) (body_read frames s at) ∙ written_gate (framed frames) frame gate at.place
        ∙ sym (framed_push frames frame (0 ∷ []))

  -- the gate's write failed
  pub doubt_write : (effect : Bool) (s : Story) → Appends gate frame Doubt s (after (opening effect ∷ synced true ∷ body true ∷ []) s)
  doubt_write effect s = record {
    crash = λ frames at firm. (opening effect ∷ synced true ∷ body true ∷ [], refl, (staged_moments frames s at firm, opening_counts frames s at effect));
    ends = λ frames at. opening_has frames s at effect;
  }

  -- the last sync failed
  pub doubt_sync : (effect : Bool) (s : Story) → Appends gate frame Doubt s (after (synced effect ∷ opening true ∷ synced true ∷ body true ∷ []) s)
  doubt_sync effect s = record {
    crash =
        λ frames at firm. (
          synced effect ∷ opening true ∷ synced true ∷ body true ∷ [],
          refl,
          (
            (staged_moments frames s at firm, opening_counts frames s at true),
            sync_keeps (IsBeforeOrAfter frames frame)
                (noted (opening true) (staged frames s at)) effect (opening_counts frames s at true),
          ),
        );
    ends = λ frames at. sync_keeps (HasFrame gate frame) (noted (opening true) (staged frames s at)) effect (opening_has frames s at true);
  }

  pub done_sync : (s : Story) → Appends gate frame Done s (after (synced true ∷ opening true ∷ synced true ∷ body true ∷ []) s)
  done_sync s = record {
    crash =
        λ frames at firm. (
          synced true ∷ opening true ∷ synced true ∷ body true ∷ [],
          refl,
          (
            (staged_moments frames s at firm, opening_counts frames s at true),
            sync_keeps (IsBeforeOrAfter frames frame)
                (noted (opening true) (staged frames s at)) true (opening_counts frames s at true),
          ),
        );
    ends = λ frames at. (
      record {
        reads = opened_reads frames s at;
        place = grown frames (at.place);
      },
      λ c left. left,
    );
  }
    where
      grown : (frames : List (List ℕ)) → gate ≡ length (framed frames) → gate + length frame + 1 ≡ length (framed (frames ++ frame ∷ []))
      grown frames place =
          omega (
            arith,
            place,
            ap length (framed_push frames frame []),
            length-append (framed (frames ++ frame ∷ [])) [],
            length-append (framed frames)
                (1 ∷ (frame ++ [])),
            length-append frame [],
          )
