-- What a site's log holds.
use Rattle.std.specs.Prelude.{◌≡◌, ◌⊎◌, ℕ, Bool, List, [], ◌∷◌, ◌++◌, Option, Some, None, if◌then◌else◌, option_map, reverse, IfSome, IsTrue, IsFalse}
use mathlib.Core.List.{IsPrefix}
use Rattle.dm_event.specs.declared.step.Step.{Step}
use Rattle.dm_frames.specs.Records.{frames_of, pending_record, record_of}
use Rattle.dm_logdisk.specs.Story.{Story, EachImage, LeavesOnly}
use Rattle.dm_model.specs.Allowed.{Allowed}
use Rattle.dm_model.specs.Doubts.{is_down, pending_at}
use Rattle.dm_record.specs.Bytes.{frame_of}
use Rattle.dm_record.specs.declared.record.Record.{Record}
use Rattle.dm_redo.specs.Holding.{Holds, IsAt, IsFirm}
use Rattle.dm_invariant.specs.Stations.{View, layout_of}

-- the file holds the frames, or these and one more, which may come next
abbrev pub HoldsWith : List (List ℕ) → (List ℕ → Type 0) → List ℕ → Type 0
HoldsWith frames Next bytes = Holds frames bytes ⊎ ((next : List ℕ) × Next next × Holds (frames ++ next ∷ []) bytes)

-- the frame of the step in doubt, where the site is down
abbrev pub doubted : ℕ → List Step → Option (List ℕ)
doubted site past = if is_down site past then option_map (λ p. frame_of (pending_record p)) (pending_at site past) else None

-- Of a site that is up, a live log stands at the site's records with nothing pending, and each image of any log holds them. Of a
-- site that is down each image holds them, or them and the one of the step in doubt.
pub record Logged (site : ℕ) (past : List Step) (live : Bool) (gate : ℕ) (told : Option Story) : Type 0 where
  pub settled : IsFalse (is_down site past) → IsTrue live → IfSome told (λ s. IsAt (frames_of site past) gate s × IsFirm (frames_of site past) s)
  pub held : IsFalse (is_down site past) → IfSome told (EachImage (Holds (frames_of site past)))
  pub doubtful : IsTrue (is_down site past) → IfSome told (EachImage (HoldsWith (frames_of site past) (λ next. doubted site past ≡ Some next)))

-- ---- crashes

-- The frame of the record of a site's step that was allowed at a moment between the two lists, or of the step that was in doubt at
-- the first.
abbrev pub MayCome : ℕ → View → View → List ℕ → Type 0
MayCome site old new next =
    ((turn : List Step) × (step : Step) × (rec : Record) × IsPrefix old.seen turn × IsPrefix turn new.seen × Allowed (layout_of new) (reverse turn) step
    × (record_of site step ≡ Some rec) × (next ≡ frame_of rec))
    ⊎ (doubted site (reverse old.seen) ≡ Some next)

-- a crash at any moment leaves the site's records, or these and one further
abbrev pub Crashes : ℕ → View → View → Story → Story → Type 0
Crashes site old new before now = LeavesOnly (HoldsWith (frames_of site (reverse old.seen)) (MayCome site old new)) before now
