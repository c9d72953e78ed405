-- Texts cut at a mark.
use Rattle.std.specs.Prelude.{ℕ, ◌+◌, List, take, drop, Option, option_map, ◌==◌, position}
use Rattle.std.specs.List.{slice_split}
use Rattle.dm_fields.specs.Fields.{Words}

-- the pieces of a text between the marks
abbrev pub pieces_of : ℕ → List ℕ → Words
pieces_of mark text = slice_split (λ b. b == mark) text

-- what stands before the first mark, and what behind it
abbrev pub cut_at : ℕ → List ℕ → Option (List ℕ × List ℕ)
cut_at mark text = option_map (λ i. (take i text, drop (i + 1) text)) (position (λ b. b == mark) text)
