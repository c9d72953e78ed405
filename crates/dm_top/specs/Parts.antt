-- What the parts of the commands ensure.
use Rattle.std.specs.Prelude.{◌≡◌, ◌↔◌, ℕ, List, [], Ok}
use Rattle.dm_check.specs.declared.judging.Checked.{Checked}
use Rattle.dm_check.specs.Judged.{Judging, HasJudged, IsYes, IfYes, IfNo, book_of, IsFirstRefused}
use Rattle.dm_event.specs.Layout.{Layout}
use Rattle.dm_event.specs.declared.step.Step.{Step}
use Rattle.dm_model.specs.Legal.{Legal}
use Rattle.dm_past.specs.Histories.{history_of}
use Rattle.dm_top.specs.declared.ran.Ran.{Ran}
use Rattle.dm_top.specs.declared.ran.Ran.TheVariants.{Did}
use Rattle.dm_top.specs.declared.status.Status.{Status}
use Rattle.dm_top.specs.Check.{EndsOnHistory, JudgesFile, EndsOnSchema, CheckEnds}
use Rattle.dm_top.specs.Ends.{Output}
use Rattle.dm_top.specs.Fetching.{Source}
use Rattle.dm_top.specs.Step.{EndsOn, StepEnds}

-- the command ended before its first step
abbrev pub EndedAs : Status → Ran → Type 0
EndedAs status (Did s history) = (s ≡ status) × (history.items ≡ [])

-- ---- `step`

abbrev pub DrivesAs : List ℕ → Output → Ran → Type 0
DrivesAs bytes out (Did status history) = EndsOn bytes out history.items status

abbrev pub StepEndsAs : (source : Source) → source.State → source.State → List ℕ → Output → Ran → Type 0
StepEndsAs source old new name out (Did status history) = StepEnds source old new name out history.items status

-- ---- `check`

-- it has judged the steps that the bytes say
pub record HasJudgedText (layout : Layout) (bytes : List ℕ) (judge : Judging) : Type 0 where
  pub steps : List Step
  pub says : history_of layout bytes ≡ Ok steps
  pub judged : HasJudged steps judge

-- the bytes say these steps, and this is what is found of them
pub record IsFoundOf (layout : Layout) (bytes : List ℕ) (checked : Checked) : Type 0 where
  pub steps : List Step
  pub says : history_of layout bytes ≡ Ok steps
  pub yes : IsYes checked ↔ Legal layout steps
  pub whole : IfYes checked (λ book. book.steps ≡ steps)
  pub first : IfNo checked (λ place why legal. IsFirstRefused layout steps place why legal.steps)
  pub schema : (book_of checked).layout ≡ layout

abbrev pub JudgesTextAs : Layout → List ℕ → Output → Ran → Type 0
JudgesTextAs layout bytes out (Did status history) = EndsOnHistory layout bytes out history.items status

abbrev pub JudgesFileAs : (source : Source) → source.State → source.State → Layout → List ℕ → Output → Ran → Type 0
JudgesFileAs source old new layout name out (Did status history) = JudgesFile source old new layout name out history.items status

abbrev pub ChecksByAs : (source : Source) → source.State → source.State → List ℕ → List ℕ → Output → Ran → Type 0
ChecksByAs source old new bytes name out (Did status history) = EndsOnSchema source old new bytes name out history.items status

abbrev pub CheckEndsAs : (source : Source) → source.State → source.State → List ℕ → List ℕ → Output → Ran → Type 0
CheckEndsAs source old new schema name out (Did status history) = CheckEnds source old new schema name out history.items status
