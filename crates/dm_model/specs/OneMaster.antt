-- Each partition has one master, and none only during its hand-over.
use Rattle.std.specs.Prelude.{ℕ, ◌/◌, ◌≡◌, Bool, true, false, ◌==◌, if◌then◌else◌, List, [], ◌∷◌, Option, Some, None, reverse, IsTrue, unwrap_or}
use Rattle.dm_event.specs.Layout.{Layout}
use Rattle.dm_event.specs.declared.step.Step.{Step}
use Rattle.dm_event.specs.declared.step.Step.TheVariants.{Commit, Release, Grant}
use Rattle.dm_model.specs.Acts.{acts, acts_of}
use Rattle.dm_model.specs.Masters.{masters}
use Rattle.dm_model.specs.Ordered.{writes_key}
use Rattle.dm_model.specs.Words.{latest}

-- whether the act takes the partition from its master, or gives it to one
abbrev pub takes : ℕ → Step → Option Bool
takes p (Release site part epoch to vector) = if part == p then Some true else None
takes p (Grant site part epoch vector) = if part == p then Some false else None
takes p s = None

-- the last Release or Grant of the partition is a Release
abbrev pub is_released : ℕ → List Step → Bool
is_released part past = unwrap_or (latest (takes part) (acts past)) false

-- at most one site masters the partition, under one epoch, and none exactly between a Release and a Grant
pub record HasOneMaster (layout : Layout) (past : List Step) (part : ℕ) : Type 0 where
  pub only : (site other epoch later : ℕ) → IsTrue (masters layout past site part epoch) → IsTrue (masters layout past other part later)
      → (site ≡ other) × (epoch ≡ later)
  pub none : is_released part past ≡ true → (site epoch : ℕ) → masters layout past site part epoch ≡ false
  pub some : is_released part past ≡ false → (site : ℕ) × (epoch : ℕ) × IsTrue (masters layout past site part epoch)

-- the entry that an act adds, if it adds one, is of the master of each partition that it writes
abbrev pub WritesMastered : Layout → List Step → List Step → Type 0
WritesMastered layout past [] = Unit {0}
WritesMastered layout past (Commit entry ∷ more) =
    (key : ℕ) → IsTrue (writes_key entry key) → (epoch : ℕ) × IsTrue (masters layout past entry.origin (key / layout.width) epoch)
WritesMastered layout past (act ∷ more) = Unit {0}

abbrev pub OneMasterPast : Layout → List Step → Type 0
OneMasterPast layout [] = (part : ℕ) → HasOneMaster layout [] part
OneMasterPast layout (step ∷ past) =
    ((part : ℕ) → HasOneMaster layout (step ∷ past) part) × WritesMastered layout past (acts_of step past) × OneMasterPast layout past

-- at each place of the history
abbrev pub OneMaster : Layout → List Step → Type 0
OneMaster layout history = OneMasterPast layout (reverse history)
