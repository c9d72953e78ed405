-- Lists of numbers in a line.
use Rattle.std.specs.Prelude.{ℕ, List, [], ◌∷◌, ◌++◌, Result, Ok}
use Rattle.dm_event.specs.declared.why.LineFault.{LineFault}
use Rattle.dm_fields.specs.Fields.{Words, ◌>>=◌, canonical}

-- the numbers of the words, each at most `most`, after those so far
unfoldable pub numbers_from : List ℕ → ℕ → Words → Result (List ℕ) LineFault
numbers_from so_far most [] = Ok so_far
numbers_from so_far most (w ∷ ws) = canonical most w >>= λ n. numbers_from (so_far ++ n ∷ []) most ws
