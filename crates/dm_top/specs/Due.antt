-- The status that belongs to what was found.
use Rattle.std.specs.Prelude.{◌≡◌, ◌⊎◌, ℕ, List, Result, Ok, Err}
use Rattle.dm_check.specs.Judged.{IsFirstRefused}
use Rattle.dm_disk.specs.declared.outside.Fetched.{Fetched}
use Rattle.dm_disk.specs.declared.outside.Fetched.TheVariants as fetched
use Rattle.dm_event.specs.Layout.{Layout}
use Rattle.dm_event.specs.declared.limits.TheConstants.{MAX_FILE}
use Rattle.dm_event.specs.declared.step.Step.{Step}
use Rattle.dm_event.specs.declared.why.LineFault.{LineFault}
use Rattle.dm_lines.specs.declared.line.Line.{Line}
use Rattle.dm_lines.specs.File.{schedule_of}
use Rattle.dm_model.specs.Legal.{Legal}
use Rattle.dm_past.specs.Histories.{history_of}
use Rattle.dm_top.specs.declared.status.Status.{Status}
use Rattle.dm_top.specs.declared.status.Status.TheVariants as statuses

-- ---- of `step`

abbrev pub status_on : Result (Layout × List Line) (ℕ × LineFault) → Status
status_on (Ok schedule) = statuses.Done
status_on (Err (line, kind)) = statuses.StepFault line kind

abbrev pub status_after : List ℕ → Fetched → Status
status_after name (fetched.Found bytes) = status_on (schedule_of bytes.items)
status_after name fetched.Absent = statuses.Absent name
status_after name fetched.TooLong = statuses.TooLong name MAX_FILE
status_after name fetched.Failed = statuses.ReadFault
status_after name fetched.NoMemory = statuses.Memory

-- it is that status, or there was no memory, or the sink had a fault where all else was done
abbrev pub IsDue : Status → Status → Type 0
IsDue due status = (status ≡ due) ⊎ (status ≡ statuses.Memory) ⊎ ((due ≡ statuses.Done) × (status ≡ statuses.WriteFault))

-- ---- of `check`

-- the bytes of a history deserve this status
abbrev pub IsVerdict : Layout → List ℕ → Status → Type 0
IsVerdict layout bytes statuses.Done = (steps : List Step) × (history_of layout bytes ≡ Ok steps) × Legal layout steps
IsVerdict layout bytes (statuses.CheckedNo place why) =
    (steps : List Step) × (before : List Step) × (history_of layout bytes ≡ Ok steps) × IsFirstRefused layout steps place why before
IsVerdict layout bytes (statuses.StepFault line kind) = history_of layout bytes ≡ Err (line, kind)
IsVerdict layout bytes statuses.BadWords = ⊥
IsVerdict layout bytes (statuses.Absent name) = ⊥
IsVerdict layout bytes (statuses.TooLong name limit) = ⊥
IsVerdict layout bytes (statuses.SchemaFault flaw) = ⊥
IsVerdict layout bytes statuses.ReadFault = ⊥
IsVerdict layout bytes statuses.WriteFault = ⊥
IsVerdict layout bytes statuses.Memory = ⊥

-- it is the verdict, or there was no memory, or the sink had a fault where all else was done
abbrev pub IsJudged : Layout → List ℕ → Status → Type 0
IsJudged layout bytes status =
    IsVerdict layout bytes status ⊎ (status ≡ statuses.Memory) ⊎ (IsVerdict layout bytes statuses.Done × (status ≡ statuses.WriteFault))
