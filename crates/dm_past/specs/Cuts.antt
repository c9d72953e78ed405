-- The lines of a text, and those that are words with one space between each two.
use Rattle.std.specs.Prelude.{ℕ, List, [], ◌∷◌, length, Bool, true, false, not, ◌==◌, ◌&&◌, if◌then◌else◌, nat_lt}
use Rattle.std.specs.List.{list_all}
use Rattle.dm_fields.specs.Fields.{Words}
use Rattle.dm_kinds.specs.Marks.{pieces_of}

-- not empty, and without a tab
abbrev pub is_piece : List ℕ → Bool
is_piece piece = nat_lt 0 (length piece) && list_all (λ b. not (b == 9)) piece

unfoldable pub are_pieces : Words → Bool
are_pieces [] = true
are_pieces (piece ∷ pieces) = is_piece piece && are_pieces pieces

-- the line is words with one space between each two
unfoldable pub is_spaced : List ℕ → Bool
is_spaced line = are_pieces (pieces_of 32 line)

-- a line, and whether a line feed ends it
abbrev pub Line : Type 0
Line = List ℕ × Bool

-- the lines of a text that was cut at the line feeds: behind the last one stands no line unless a byte stands there
abbrev pub lines_in : Words → List Line
lines_in [] = []
lines_in (last ∷ []) = if nat_lt 0 (length last) then (last, false) ∷ [] else []
lines_in (line ∷ next ∷ more) = (line, true) ∷ lines_in (next ∷ more)
