-- How the command `step` ends.
use Rattle.std.specs.Prelude.{◌≡◌, ◌⊎◌, ℕ, List, [], ◌++◌, Ok, Err}
use Rattle.dm_disk.specs.declared.outside.Fetched.{Fetched}
use Rattle.dm_event.specs.Layout.{Layout}
use Rattle.dm_event.specs.declared.limits.TheConstants.{MAX_FILE}
use Rattle.dm_event.specs.declared.step.Step.{Step}
use Rattle.dm_report.specs.Rest.{rest_text}
use Rattle.dm_lines.specs.declared.line.Line.{Line}
use Rattle.dm_lines.specs.File.{schedule_of}
use Rattle.dm_schedule.specs.Drive.{drive_of, answers_of}
use Rattle.dm_top.specs.declared.status.Status.{Status}
use Rattle.dm_top.specs.declared.status.Status.TheVariants as statuses
use Rattle.dm_top.specs.Ends.{Output, Wrote, WrotePart, WroteNothing, IsNothing, IsHistory}
use Rattle.dm_top.specs.Fetching.{Source, Fetch, EndsAfter}

-- the history that the lines drive
abbrev pub driven_by : Layout → List Line → List Step
driven_by layout lines = (drive_of layout lines).history

-- the answers to the lines, and then the rest of the report
abbrev pub output_of : Layout → List Line → List ℕ
output_of layout lines = answers_of layout lines ++ rest_text layout (driven_by layout lines)

-- the bytes are a schedule, and the history is the one that its lines drive
pub record IsRun (bytes : List ℕ) (layout : Layout) (lines : List Line) (history : List Step) : Type 0 where
  pub schedule : schedule_of bytes ≡ Ok (layout, lines)
  pub driven : history ≡ driven_by layout lines
  pub is : IsHistory layout history

-- how the command ends on the bytes of the file
abbrev pub EndsOn : List ℕ → Output → List Step → Status → Type 0
EndsOn bytes out history statuses.Done =
    (layout : Layout) × (lines : List Line) × IsRun bytes layout lines history × Wrote out (output_of layout lines)
EndsOn bytes out history (statuses.StepFault line kind) = (schedule_of bytes ≡ Err (line, kind)) × IsNothing out history
EndsOn bytes out history statuses.WriteFault =
    (layout : Layout) × (lines : List Line) × IsRun bytes layout lines history × WrotePart out (output_of layout lines)
EndsOn bytes out history statuses.Memory =
    ((history ≡ []) ⊎ ((layout : Layout) × (lines : List Line) × IsRun bytes layout lines history)) × WroteNothing out
EndsOn bytes out history statuses.BadWords = ⊥
EndsOn bytes out history (statuses.Absent name) = ⊥
EndsOn bytes out history (statuses.TooLong name limit) = ⊥
EndsOn bytes out history (statuses.SchemaFault flaw) = ⊥
EndsOn bytes out history (statuses.CheckedNo step why) = ⊥
EndsOn bytes out history statuses.ReadFault = ⊥

-- how it ends after this answer to the fetch of its file
abbrev pub EndsAfterFile : List ℕ → Fetched → Output → List Step → Status → Type 0
EndsAfterFile name answer out history status = EndsAfter (λ bytes. EndsOn bytes out history status) (IsNothing out history) name MAX_FILE answer status

-- the source was asked once for the file, and gave this answer
pub record StepEnds (source : Source) (old new : source.State) (name : List ℕ) (out : Output) (history : List Step) (status : Status) : Type 0 where
  pub answer : Fetched
  pub file : Fetch source old new name MAX_FILE answer
  pub ends : EndsAfterFile name answer out history status
