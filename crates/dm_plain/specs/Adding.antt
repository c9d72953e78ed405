-- What one further step adds to what is read of a past.
use Rattle.std.specs.Prelude.{ℕ, ◌==◌, ◌&&◌, if◌then◌else◌, List, Option, Some, None, option_map, option_and_then}
use Rattle.dm_event.specs.declared.step.Found.{Found}
use Rattle.dm_event.specs.declared.step.Found.TheVariants.{Kept}
use Rattle.dm_event.specs.declared.step.Pending.{Pending}
use Rattle.dm_event.specs.declared.placing.Placing.{Placing}
use Rattle.dm_event.specs.declared.placing.Placing.TheVariants.{Between, Granted}
use Rattle.dm_event.specs.declared.step.Pending.TheVariants.{Release, Grant}
use Rattle.dm_event.specs.declared.step.Said.{Said}
use Rattle.dm_event.specs.declared.step.Said.TheVariants as said
use Rattle.dm_event.specs.declared.step.Step.{Step}
use Rattle.dm_event.specs.declared.step.TxnId.{TxnId}
use Rattle.dm_event.specs.Layout.{Layout}
use Rattle.dm_event.specs.Entries.{commit_vector}
use Rattle.dm_model.specs.Acts.{entry_at}
use Rattle.dm_model.specs.Allowed.{common_key}
use Rattle.dm_model.specs.Attempts.{declared}
use Rattle.dm_model.specs.Choices.{parts_in_order}
use Rattle.dm_model.specs.Tests.{is_among}
use Rattle.dm_model.specs.Runs.{runs, begun_at, last_begin}

-- the placing after a pending step that the site kept
abbrev pub kept_placing : ℕ → ℕ → Found → Option Pending → Placing → Placing
kept_placing p site Kept (Some (Release part epoch to vector)) now = if part == p then Between site epoch to vector else now
kept_placing p site Kept (Some (Grant part epoch vector)) now = if part == p then Granted site epoch else now
kept_placing p site found other now = now

-- the attempt, where it runs at the site, with the first of the keys that it declares too
abbrev pub holds_one : ℕ → List ℕ → List Step → TxnId → Option (TxnId × ℕ)
holds_one site keys past t = if runs site t past then option_map (λ key. (t, key)) (common_key keys (declared t past)) else None

-- the same of the attempt that the step began at the site
abbrev pub begun_holder : ℕ → List ℕ → List Step → Step → Option (TxnId × ℕ)
begun_holder site keys past s = option_and_then (holds_one site keys past) (begun_at site s)

-- the vector that an outcome adds to what the session has seen
abbrev pub said_vector : ℕ → Said → List Step → Option (List ℕ)
said_vector c (said.Committed site seq) past = option_map commit_vector (entry_at site seq past)
said_vector c (said.Read site) past = last_begin c past
said_vector c other past = None

-- the attempt, where it runs at the site and declares a key of the partition
abbrev pub runs_one : Layout → ℕ → ℕ → List Step → TxnId → Option TxnId
runs_one layout site part past t = if runs site t past && is_among (parts_in_order layout (declared t past)) part then Some t else None

-- the same of the attempt that the step began at the site
abbrev pub begun_runner : Layout → ℕ → ℕ → List Step → Step → Option TxnId
begun_runner layout site part past s = option_and_then (runs_one layout site part past) (begun_at site s)
