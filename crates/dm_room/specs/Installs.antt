-- How many installs of its own a site may still come to without a further Begin: one for each attempt that runs there, and one
-- for its pending commit.
use Rattle.std.specs.Prelude.{ℕ, ◌+◌, ◌==◌, Bool, if◌then◌else◌, List, Option, Some, None, length}
use Rattle.dm_event.specs.declared.step.Pending.{Pending}
use Rattle.dm_event.specs.declared.step.Pending.TheVariants as pending
use Rattle.dm_event.specs.declared.step.Step.{Step}
use Rattle.dm_event.specs.declared.step.Step.TheVariants.{Begin}
use Rattle.dm_event.specs.declared.step.TxnId.{TxnId}
use Rattle.dm_model.specs.Doubts.{is_down, pending_at}
use Rattle.dm_model.specs.Runs.{running}

-- a commit that is in doubt may be kept
abbrev pub doubted : Option Pending → ℕ
doubted (Some (pending.Commit entry)) = 1
doubted (Some (pending.Release part epoch to vector)) = 0
doubted (Some (pending.Grant part epoch vector)) = 0
doubted None = 0

-- by what runs there, whether it is down, and what its last Doubt left open
abbrev pub installs_by : List TxnId → Bool → Option Pending → ℕ
installs_by runners down left = length runners + (if down then doubted left else 0)

abbrev pub installs_to_come : ℕ → List Step → ℕ
installs_to_come site past = installs_by (running site past) (is_down site past) (pending_at site past)

-- a Begin at the site adds one
abbrev pub begins_at : ℕ → Step → ℕ
begins_at i (Begin site txn begin) = if site == i then 1 else 0
begins_at i s = 0
