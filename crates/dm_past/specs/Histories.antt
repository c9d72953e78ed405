-- How a history is read, line by line.
use Rattle.std.specs.Prelude.{ℕ, ◌+◌, List, [], ◌∷◌, ◌++◌, Result, Ok, Err, ◌&&◌}
use Rattle.dm_event.specs.Layout.{Layout}
use Rattle.dm_event.specs.declared.step.Step.{Step}
use Rattle.dm_event.specs.declared.why.LineFault.{LineFault}
use Rattle.dm_text.specs.Text.{words_of}
use Rattle.dm_fields.specs.Faults.{Faulty}
use Rattle.dm_kinds.specs.Marks.{pieces_of}
use Rattle.dm_past.specs.Cuts.{Line, is_spaced, lines_in}
use Rattle.dm_kinds.specs.Kinds.{step_of}

-- what a line says
unfoldable pub line_step : Layout → Line → Result Step LineFault
line_step layout line = step_of layout (line.1 && is_spaced line.0) (words_of line.0)

-- reading goes on after a line, unless that line, which has this number, is faulty
abbrev pub unless_faulty : ℕ → Result Step LineFault → (Step → Result (List Step) Faulty) → Result (List Step) Faulty
unless_faulty n (Ok step) go_on = go_on step
unless_faulty n (Err fault) go_on = Err (n, fault)

-- the steps so far and those of the lines from this number on, or the first faulty line
unfoldable pub read_from : Layout → List Step → ℕ → List Line → Result (List Step) Faulty
read_from layout so_far n [] = Ok so_far
read_from layout so_far n (line ∷ more) = unless_faulty n (line_step layout line) (λ step. read_from layout (so_far ++ step ∷ []) (n + 1) more)

-- what the bytes of a history say
unfoldable pub history_of : Layout → List ℕ → Result (List Step) Faulty
history_of layout text = read_from layout [] 1 (lines_in (pieces_of 10 text))

-- what is still to be read of a history: its text, behind so many lines
pub record Unread : Type 0 where
  pub text : List ℕ
  pub lines : ℕ

-- the steps so far and those that are still to be read, or the first faulty line
abbrev pub read_on : Layout → List Step → Unread → Result (List Step) Faulty
read_on layout so_far unread = read_from layout so_far (unread.lines + 1) (lines_in (pieces_of 10 unread.text))
