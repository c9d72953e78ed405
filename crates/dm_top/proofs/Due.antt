-- The status of an answer of the source.
use Rattle.std.proofs.Common.{◌≡◌, ◌⊎◌, refl, inl, inr, ℕ, List}
use Rattle.dm_event.specs.declared.step.Step.{Step}
use Rattle.dm_disk.specs.declared.outside.Fetched.{Fetched}
use Rattle.dm_disk.specs.declared.outside.Fetched.TheVariants as fetched
use Rattle.dm_lines.specs.File.{schedule_of}
use Rattle.dm_top.specs.declared.status.Status.{Status}
use Rattle.dm_top.specs.declared.status.Status.TheVariants as statuses
use Rattle.dm_top.specs.Due.{IsDue, status_on, status_after}
use Rattle.dm_top.specs.Ends.{Output}
use Rattle.dm_top.specs.Step.{EndsOn, EndsAfterFile}

due_on : (bytes : List ℕ) (out : Output) (h : List Step) (status : Status) → EndsOn bytes out h status → IsDue (status_on (schedule_of bytes)) status
due_on bytes out h statuses.Done (layout, lines, run, has) = inl (rw run.schedule refl)
due_on bytes out h (statuses.StepFault line kind) (faulty, nothing) = inl (rw faulty refl)
due_on bytes out h statuses.WriteFault (layout, lines, run, has) = inr (inr (rw run.schedule refl, refl))
due_on bytes out h statuses.Memory e = inr (inl refl)
due_on bytes out h statuses.BadWords e = absurd e
due_on bytes out h (statuses.Absent name) e = absurd e
due_on bytes out h (statuses.TooLong name limit) e = absurd e
due_on bytes out h (statuses.SchemaFault flaw) e = absurd e
due_on bytes out h (statuses.CheckedNo step why) e = absurd e
due_on bytes out h statuses.ReadFault e = absurd e

or_memory : {due status : Status} → (status ≡ due) ⊎ (status ≡ statuses.Memory) → IsDue due status
or_memory (inl e) = inl e
or_memory (inr e) = inr (inl e)

pub due_after : (name : List ℕ) (answer : Fetched) (out : Output) (h : List Step) (status : Status) → EndsAfterFile name answer out h status
    → IsDue (status_after name answer) status
due_after name (fetched.Found bytes) out h status e = due_on bytes.items out h status e
due_after name fetched.Absent out h status (e, nothing) = or_memory e
due_after name fetched.TooLong out h status (e, nothing) = or_memory e
due_after name fetched.Failed out h status (e, nothing) = inl e
due_after name fetched.NoMemory out h status (e, nothing) = inl e
