-- How a step file is read, line by line.
use Rattle.std.specs.Prelude.{ℕ, ◌+◌, List, [], ◌∷◌, ◌++◌, Result, Ok, Err, All, IsTrue, Bool, true, ◌==◌, if◌then◌else◌, codes}
use Rattle.std.specs.Str.{bytes_eq}
use Rattle.std.specs.Str.Lines.{lines}
use Rattle.dm_event.specs.Layout.{Layout, is_layout}
use Rattle.dm_event.specs.declared.why.LineFault.{LineFault}
use Rattle.dm_event.specs.declared.why.LineFault.TheVariants.{Unfinished}
use Rattle.dm_text.specs.Text.{words_of}
use Rattle.dm_fields.specs.Fields.{Words, made, word_at}
use Rattle.dm_fields.specs.Faults.{Faulty}
use Rattle.dm_lines.specs.declared.file.Begun.{Begun}
use Rattle.dm_lines.specs.declared.file.Begun.TheVariants as begun
use Rattle.dm_lines.specs.declared.file.Schedule.{Schedule}
use Rattle.dm_lines.specs.declared.line.Line.{Line}
use Rattle.dm_lines.specs.Ranges.{Fits}
use Rattle.dm_lines.specs.Reading.{header_of, value_of, weighed, weights_of, line_of}

-- what a step file says: its header, and its command lines in order
abbrev pub Told : Type 0
Told = Layout × List Line

abbrev pub told : Schedule → Told
told schedule = (schedule.schema, schedule.lines.items)

-- what the lines so far say
pub data SoFar : Type 0 where
  Nothing : SoFar
  -- the header, and what the lines of values and weights behind it say
  Header : Layout → SoFar
  -- these, and the command lines
  Commands : Layout → List Line → SoFar

abbrev pub so_far : Begun → SoFar
so_far begun.Nothing = Nothing
so_far (begun.Header opening) = Header opening
so_far (begun.Commands schema lines) = Commands schema lines.items

-- the command lines so far
abbrev pub commands : SoFar → List Line
commands Nothing = []
commands (Header layout) = []
commands (Commands layout done) = done

-- no word, or a first word that begins with `#`
abbrev pub is_comment : List ℕ → Bool
is_comment [] = true
is_comment (c ∷ cs) = c == 35

-- a blank line or a comment
unfoldable pub is_skipped : Words → Bool
is_skipped ws = is_comment (word_at ws 0)

-- after a line behind the header: values and weights come before the first command line
unfoldable pub after_header : Layout → Words → Result SoFar LineFault
after_header layout ws =
    if bytes_eq (word_at ws 0) (codes "value") then made Header (value_of layout ws)
    else (if bytes_eq (word_at ws 0) (codes "weights") then made (λ weights. Header (weighed layout weights)) (weights_of ws)
    else made (λ line. Commands layout (line ∷ [])) (line_of layout ws))

-- after a further line: the first that isn't skipped is the header
abbrev pub after_words : SoFar → Words → Result SoFar LineFault
after_words Nothing ws = made Header (header_of ws)
after_words (Header layout) ws = after_header layout ws
after_words (Commands layout done) ws = made (λ line. Commands layout (done ++ line ∷ [])) (line_of layout ws)

unfoldable pub after_line : SoFar → List ℕ → Result SoFar LineFault
after_line begun line = if is_skipped (words_of line) then Ok begun else after_words begun (words_of line)

-- at the end of the file
abbrev pub ended : SoFar → Result Told Faulty
ended Nothing = Err (1, Unfinished)
ended (Header layout) = Ok (layout, [])
ended (Commands layout done) = Ok (layout, done)

-- reading goes on after a line, unless that line, which has this number, is faulty
abbrev pub unless_faulty : ℕ → Result SoFar LineFault → (SoFar → Result Told Faulty) → Result Told Faulty
unless_faulty n (Ok begun) go_on = go_on begun
unless_faulty n (Err fault) go_on = Err (n, fault)

-- the lines from this number on
unfoldable pub read_from : SoFar → ℕ → List (List ℕ) → Result Told Faulty
read_from begun n [] = ended begun
read_from begun n (line ∷ rest) = unless_faulty n (after_line begun line) (λ next. read_from next (n + 1) rest)

-- what the bytes of a file say, or its first faulty line
unfoldable pub schedule_of : List ℕ → Result Told Faulty
schedule_of text = read_from Nothing 1 (lines text)

-- the schema keeps the limits, and each line is inside the schema
abbrev pub AllFit : SoFar → Type 0
AllFit Nothing = Unit {0}
AllFit (Header layout) = Unit {0}
AllFit (Commands layout done) = IsTrue (is_layout layout) × All (λ line. Fits layout line) done
