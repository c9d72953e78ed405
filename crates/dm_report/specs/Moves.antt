-- The moves of partitions: what was granted, and which site had released it.
use Rattle.std.specs.List.{cons_option}
use Rattle.std.specs.Prelude.{ℕ, ◌==◌, if◌then◌else◌, List, [], ◌∷◌, Option, Some, None, unwrap_or}
use Rattle.dm_event.specs.declared.step.Step.{Step}
use Rattle.dm_event.specs.declared.step.Step.TheVariants.{Release, Grant}
use Rattle.dm_model.specs.Words.{latest}
use Rattle.dm_report.specs.declared.moves.Move.{Move}

-- the site that the act is a Release by, if it releases the partition
abbrev pub released_by : ℕ → Step → Option ℕ
released_by p (Release site part epoch to vector) = if part == p then Some site else None
released_by p s = None

-- the site that released the partition last
abbrev pub giver : ℕ → List Step → ℕ
giver p acts = unwrap_or (latest (released_by p) acts) 0

-- the site takes the partition over after these acts
abbrev pub moved : List Step → ℕ → ℕ → ℕ → Move
moved acts site part epoch = record { part = part; epoch = epoch; from = giver part acts; to = site }

-- the move that the act makes after these acts, if it is a Grant
abbrev pub move_by : List Step → Step → Option Move
move_by acts (Grant site part epoch vector) = Some (moved acts site part epoch)
move_by acts s = None

-- the moves that these acts make, the latest first
abbrev pub moves_by : List Step → List Move
moves_by [] = []
moves_by (s ∷ acts) = cons_option (move_by acts s) (moves_by acts)
