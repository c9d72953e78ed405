-- The first faulty line of a text.
use Rattle.std.specs.Prelude.{◌≡◌, ℕ, Result, Ok, Err}
use Rattle.dm_event.specs.declared.why.LineFault.{LineFault}
use Rattle.dm_fields.specs.declared.error.HistoryError.{HistoryError}
use Rattle.dm_fields.specs.declared.error.HistoryError.TheVariants as errors
use Rattle.dm_fields.specs.declared.fault.LineError.{LineError}
use Rattle.dm_fields.specs.declared.fault.LineError.TheVariants as line_errors

-- its number, counted from 1, and its first fault
abbrev pub Faulty : Type 0
Faulty = ℕ × LineFault

-- What the reader answered, seen by view, is what the text says, unless memory ran out.

abbrev pub Stops : {Y : Type 0} → HistoryError → Result Y Faulty → Type 0
Stops errors.Memory read = Unit {0}
Stops (errors.Fault line kind) read = read ≡ Err (line, kind)

abbrev pub Reads : {X Y : Type 0} → (X → Y) → Result X HistoryError → Result Y Faulty → Type 0
Reads view (Ok x) read = read ≡ Ok (view x)
Reads view (Err e) read = Stops e read

-- the error of the line with this number
abbrev pub at_line : ℕ → LineError → HistoryError
at_line n (line_errors.Fault kind) = errors.Fault n kind
at_line n line_errors.Memory = errors.Memory
