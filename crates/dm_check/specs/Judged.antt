-- What is found of a list of steps.
use Rattle.std.specs.Prelude.{◌≡◌, ℕ, ◌+◌, List, [], ◌∷◌, ◌++◌, length, Option, Some, None, reverse}
use Rattle.dm_event.specs.Layout.{Layout}
use Rattle.dm_event.specs.declared.step.Step.{Step}
use Rattle.dm_event.specs.declared.why.Why.{Why}
use Rattle.dm_core.specs.Ledger.{Ledger}
use Rattle.dm_model.specs.Allowed.{refusal}
use Rattle.dm_model.specs.Legal.{Legal}
use Rattle.dm_check.specs.declared.judging.Checked.{Checked}
use Rattle.dm_check.specs.declared.judging.Checked.TheVariants.{Yes, No}

abbrev pub IsYes : Checked → Type 0
IsYes (Yes book) = Unit {0}
IsYes (No step why legal) = ⊥

abbrev pub IfYes : Checked → (Ledger → Type 0) → Type 0
IfYes (Yes book) P = P book
IfYes (No step why legal) P = Unit {0}

abbrev pub IfNo : Checked → (ℕ → Why → Ledger → Type 0) → Type 0
IfNo (Yes book) P = Unit {0}
IfNo (No step why legal) P = P step why legal

-- the book of the whole list, or of the steps before the first that may not stand
abbrev pub book_of : Checked → Ledger
book_of (Yes book) = book
book_of (No step why legal) = legal

-- why the step may not stand behind these, if it may not
unfoldable pub refused_next : Layout → List Step → Step → Option Why
refused_next layout steps step = refusal layout (reverse steps) step

-- the steps with the next one, if nothing refuses it
abbrev pub added : Option Why → List Step → Step → List Step
added None steps step = steps ++ step ∷ []
added (Some why) steps step = steps

-- these are all the steps, and they are legal
pub record IsWhole (layout : Layout) (steps : List Step) (book : List Step) : Type 0 where
  pub all : book ≡ steps
  pub legal : Legal layout steps

-- the first of the steps that may not stand is refused for this reason behind these, which are legal
pub record IsRefusedNext (layout : Layout) (steps : List Step) (why : Why) (before : List Step) : Type 0 where
  pub step : Step
  pub rest : List Step
  pub stands : steps ≡ before ++ step ∷ rest
  pub legal : Legal layout before
  pub refused : refused_next layout before step ≡ Some why

-- it stands at this place, counted from 1
pub record IsFirstRefused (layout : Layout) (steps : List Step) (place : ℕ) (why : Why) (before : List Step) : Type 0 where
  pub next : IsRefusedNext layout steps why before
  pub counted : place ≡ length before + 1

-- what a judge has: the book of the steps before the first that may not stand, or of all, and why that one is refused
pub record Judging : Type 0 where
  pub book : Ledger
  pub refused : Option Why

-- the steps are all in the book, or the first that may not stand is refused for this reason
abbrev pub IsFound : Layout → List Step → Option Why → List Step → Type 0
IsFound layout steps None book = IsWhole layout steps book
IsFound layout steps (Some why) book = IsRefusedNext layout steps why book

-- it has judged these steps
abbrev pub HasJudged : List Step → Judging → Type 0
HasJudged steps judge = IsFound judge.book.layout steps judge.refused judge.book.steps
