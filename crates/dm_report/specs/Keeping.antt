-- What the pending step of a site does where the site kept it.
use Rattle.std.specs.Prelude.{ℕ, ◌==◌, if◌then◌else◌, List, Option, Some, None}
use Rattle.dm_event.specs.declared.step.Found.{Found}
use Rattle.dm_event.specs.declared.step.Found.TheVariants.{Clean, Kept, Lost}
use Rattle.dm_event.specs.declared.step.Pending.{Pending}
use Rattle.dm_event.specs.declared.step.Pending.TheVariants.{Release, Grant}
use Rattle.dm_event.specs.declared.step.Step.{Step}
use Rattle.dm_report.specs.declared.moves.Move.{Move}
use Rattle.dm_report.specs.Moves.{moved}

-- the pending step, where it was kept
abbrev pub where_kept : Found → Option Pending → Option Pending
where_kept Kept pending = pending
where_kept Clean pending = None
where_kept Lost pending = None

-- the site, if it releases the partition
abbrev pub kept_release : ℕ → ℕ → Found → Option Pending → Option ℕ
kept_release p site Kept (Some (Release part epoch to vector)) = if part == p then Some site else None
kept_release p site found pending = None

-- the move that it makes after these acts
abbrev pub kept_move : List Step → ℕ → Found → Option Pending → Option Move
kept_move acts site Kept (Some (Grant part epoch vector)) = Some (moved acts site part epoch)
kept_move acts site found pending = None
