-- What a frame is.
use Rattle.std.specs.Prelude.{◌≡◌, ℕ, List, [], ◌∷◌, ◌++◌}
use Rattle.dm_record.specs.declared.record.Record.{Record}
use Rattle.dm_record.specs.Bytes.{body, HasRanges, IsFrame}

-- the frame of some record
abbrev pub IsSomeFrame : List ℕ → Type 0
IsSomeFrame bytes = (rec : Record) × IsFrame bytes rec

-- the body of some record
abbrev pub IsSomeBody : List ℕ → Type 0
IsSomeBody bytes = (rec : Record) × HasRanges rec × (bytes ≡ body rec)

-- a frame, and a closed gate byte behind it
pub record IsClosed (frame closed : List ℕ) : Type 0 where
  pub closes : closed ≡ frame ++ 0 ∷ []
  pub frames : IsSomeFrame frame
