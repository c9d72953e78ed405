-- The names of a table.
use Rattle.std.specs.Prelude.{ℕ, List, [], ◌∷◌, Bool, not, Option, Some, None, filter, if◌then◌else◌}
use Rattle.std.specs.List.{list_any}
use Rattle.std.specs.Ordering.{nat_cmp, is_lt}
use Rattle.std.specs.Cmp.Lexicographic.{slice_cmp}
use Rattle.std.specs.Str.{bytes_eq}
use Rattle.toml.specs.Data.{Members, no_members, member}

abbrev pub names : Members → List (List ℕ)
names no_members = []
names (member name d ms) = name ∷ names ms

-- in the order of bytes
abbrev pub is_below : List ℕ → List ℕ → Bool
is_below a b = is_lt (slice_cmp nat_cmp a b)

abbrev pub lesser : List ℕ → Option (List ℕ) → List ℕ
lesser a None = a
lesser a (Some b) = if is_below b a then b else a

-- the least of some texts
abbrev pub least : List (List ℕ) → Option (List ℕ)
least [] = None
least (a ∷ more) = Some (lesser a (least more))

abbrev pub is_one_of : List (List ℕ) → List ℕ → Bool
is_one_of known text = list_any (λ name. bytes_eq name text) known

-- the least name of a table that isn't one of these
unfoldable pub least_other : List (List ℕ) → Members → Option (List ℕ)
least_other known ms = least (filter (λ name. not (is_one_of known name)) (names ms))
