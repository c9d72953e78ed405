-- How far a site has caught up.
use Rattle.std.specs.Prelude.{◌≡◌, List, ℕ, Result, Ok, Err, reverse}
use mathlib.Core.List.{IsPrefix}
use Rattle.dm_frames.specs.Records.{frames_of}
use Rattle.dm_next.specs.Counted.{Counts}
use Rattle.dm_site.specs.Answers.{HasReached, IsDownIn}
use Rattle.dm_invariant.specs.Logs.{doubted}
use Rattle.dm_invariant.specs.Stations.{Station, View, Went, layout_of}
use Rattle.dm_desk.specs.declared.answers.RefreshAnswer.{RefreshAnswer}
use Rattle.dm_desk.specs.declared.answers.RefreshAnswer.TheVariants as refreshed
use Rattle.dm_site.specs.declared.refreshing.Look.{Look}
use Rattle.dm_site.specs.declared.refreshing.Look.TheVariants.{Covers, Lacks, Down}

-- the site's records are the same, and its step in doubt
pub record SameRecords (site : ℕ) (old new : View) : Type 0 where
  pub frames : frames_of site (reverse new.seen) ≡ frames_of site (reverse old.seen)
  pub doubt : doubted site (reverse new.seen) ≡ doubted site (reverse old.seen)

-- Nothing but Refreshes came: the store has at least what it had, its locks, its log and its disk are as before, and so are its records.
pub record Refreshes {D : Type 0} (old new : Station D) : Type 0 where
  pub number : new.number ≡ old.number
  pub installed : IsPrefix old.installed new.installed
  pub locks : new.locks ≡ old.locks
  pub live : new.live ≡ old.live
  pub pass : Went old.pass new.pass
  pub disk : new.disk ≡ old.disk
  pub records : SameRecords old.number old.pass new.pass

-- the vector counts entries that there are
abbrev pub IsCountedIn : List ℕ → View → Type 0
IsCountedIn to pass = Counts (layout_of pass) (reverse pass.seen) to

abbrev pub Looked : ℕ → List ℕ → View → Look → Type 0
Looked site to pass Covers = HasReached site to pass
Looked site to pass Lacks = Unit {0}
Looked site to pass Down = IsDownIn pass site

-- what the answer of a Refresh says of a vector that counts what there is
abbrev pub LookAfter : {E : Type 0} → Result RefreshAnswer E → Look → Type 0
LookAfter (Ok (refreshed.Applied origin)) look = look ≡ Lacks
LookAfter (Ok refreshed.Nothing) look = look ≡ Covers
LookAfter (Ok refreshed.Down) look = look ≡ Down
LookAfter (Err e) look = ⊥
