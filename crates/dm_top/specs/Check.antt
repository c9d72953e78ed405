-- How the command `check` ends.
use Rattle.std.specs.Prelude.{◌≡◌, ◌⊎◌, ℕ, List, length, Ok, Err}
use Rattle.dm_check.specs.Judged.{IsFirstRefused}
use Rattle.dm_disk.specs.declared.outside.Fetched.{Fetched}
use Rattle.dm_event.specs.Layout.{Layout}
use Rattle.dm_event.specs.declared.limits.TheConstants.{MAX_FILE}
use Rattle.dm_event.specs.declared.step.Step.{Step}
use Rattle.dm_event.specs.declared.why.LineFault.{LineFault}
use Rattle.dm_event.specs.declared.why.Why.{Why}
use Rattle.dm_past.specs.Histories.{history_of}
use Rattle.dm_schema.specs.declared.error.SchemaFlaw.{SchemaFlaw}
use Rattle.dm_schema.specs.Reading.{schema_of}
use Rattle.dm_top.specs.declared.fetching.TheConstants.{MAX_HISTORY}
use Rattle.dm_top.specs.declared.status.Status.{Status}
use Rattle.dm_top.specs.declared.status.Status.TheVariants as statuses
use Rattle.dm_top.specs.Ends.{Output, Wrote, WrotePart, WroteNothing, IsNothing, IsHistory}
use Rattle.dm_top.specs.Fetching.{Source, Fetch, EndsAfter}
use Rattle.dm_top.specs.Texts.{legal_text}

-- ---- the steps

-- how it ends where it is said that so many steps are legal
abbrev pub EndsLegal : ℕ → Output → Status → Type 0
EndsLegal steps out statuses.Done = Wrote out (legal_text steps)
EndsLegal steps out statuses.WriteFault = WrotePart out (legal_text steps)
EndsLegal steps out statuses.Memory = WroteNothing out
EndsLegal steps out statuses.BadWords = ⊥
EndsLegal steps out (statuses.Absent name) = ⊥
EndsLegal steps out (statuses.TooLong name limit) = ⊥
EndsLegal steps out (statuses.SchemaFault flaw) = ⊥
EndsLegal steps out (statuses.StepFault line kind) = ⊥
EndsLegal steps out (statuses.CheckedNo step why) = ⊥
EndsLegal steps out statuses.ReadFault = ⊥

-- the steps are legal, and they are the history
pub record AreLegal (layout : Layout) (steps : List Step) (out : Output) (history : List Step) (status : Status) : Type 0 where
  pub all : history ≡ steps
  pub is : IsHistory layout history
  pub said : EndsLegal (length history) out status

-- the first step that may not stand is named, with the first rule that it breaks, and those before it are the history
pub record AreRefused (layout : Layout) (steps : List Step) (out : Output) (history : List Step) (status : Status) : Type 0 where
  pub place : ℕ
  pub why : Why
  pub first : IsFirstRefused layout steps place why history
  pub is : IsHistory layout history
  pub said : status ≡ statuses.CheckedNo place why
  pub silent : WroteNothing out

abbrev pub EndsOnSteps : Layout → List Step → Output → List Step → Status → Type 0
EndsOnSteps layout steps out history status = AreLegal layout steps out history status ⊎ AreRefused layout steps out history status

-- ---- the history

-- the bytes say these steps
pub record HasSteps (layout : Layout) (bytes : List ℕ) (out : Output) (history : List Step) (status : Status) : Type 0 where
  pub steps : List Step
  pub says : history_of layout bytes ≡ Ok steps
  pub ends : EndsOnSteps layout steps out history status

-- a line of the bytes is faulty
pub record HasFault (layout : Layout) (bytes : List ℕ) (out : Output) (history : List Step) (status : Status) : Type 0 where
  pub line : ℕ
  pub kind : LineFault
  pub says : history_of layout bytes ≡ Err (line, kind)
  pub said : status ≡ statuses.StepFault line kind
  pub nothing : IsNothing out history

-- there was no memory, and so neither a step nor a text
pub record HadNoMemory (out : Output) (history : List Step) (status : Status) : Type 0 where
  pub said : status ≡ statuses.Memory
  pub nothing : IsNothing out history

abbrev pub EndsOnHistory : Layout → List ℕ → Output → List Step → Status → Type 0
EndsOnHistory layout bytes out history status =
    HasSteps layout bytes out history status ⊎ HasFault layout bytes out history status ⊎ HadNoMemory out history status

-- the source was asked once for the history, and gave this answer
pub record JudgesFile (source : Source) (old new : source.State) (layout : Layout) (name : List ℕ) (out : Output) (history : List Step) (status : Status)
    : Type 0 where
  pub answer : Fetched
  pub file : Fetch source old new name MAX_HISTORY answer
  pub ends : EndsAfter (λ bytes. EndsOnHistory layout bytes out history status) (IsNothing out history) name MAX_HISTORY answer status

-- ---- the schema

-- the command stopped, and the source wasn't asked again
pub record Stops (source : Source) (old new : source.State) (out : Output) (history : List Step) : Type 0 where
  pub unasked : new ≡ old
  pub nothing : IsNothing out history

-- the bytes are a schema, by which the history is judged
pub record HasSchema (source : Source) (old new : source.State) (bytes : List ℕ) (name : List ℕ) (out : Output) (history : List Step) (status : Status)
    : Type 0 where
  pub layout : Layout
  pub says : schema_of bytes ≡ Ok layout
  pub ends : JudgesFile source old new layout name out history status

-- the schema has a flaw
pub record HasFlaw (source : Source) (old new : source.State) (bytes : List ℕ) (out : Output) (history : List Step) (status : Status) : Type 0 where
  pub flaw : SchemaFlaw
  pub says : schema_of bytes ≡ Err flaw
  pub said : status ≡ statuses.SchemaFault flaw
  pub stops : Stops source old new out history

-- there was no memory for the schema
pub record HasNoRoom (source : Source) (old new : source.State) (out : Output) (history : List Step) (status : Status) : Type 0 where
  pub said : status ≡ statuses.Memory
  pub stops : Stops source old new out history

abbrev pub EndsOnSchema : (source : Source) → source.State → source.State → List ℕ → List ℕ → Output → List Step → Status → Type 0
EndsOnSchema source old new bytes name out history status =
    HasSchema source old new bytes name out history status ⊎ HasFlaw source old new bytes out history status
    ⊎ HasNoRoom source old new out history status

-- the source was asked once for the schema, and gave this answer
pub record CheckEnds (source : Source) (old new : source.State) (schema name : List ℕ) (out : Output) (history : List Step) (status : Status) : Type 0 where
  pub answer : Fetched
  pub between : source.State
  pub file : Fetch source old between schema MAX_FILE answer
  pub ends : EndsAfter (λ bytes. EndsOnSchema source between new bytes name out history status) (Stops source between new out history) schema
      MAX_FILE answer status
