-- The value of a key at a vector.
use Rattle.std.specs.Option.{option_or}
use Rattle.std.specs.Prelude.{ℕ, ℤ, ◌==◌, if◌then◌else◌, List, [], ◌∷◌, Option, Some, None, unwrap_or}
use Rattle.dm_event.specs.Layout.{Layout, opening_value}
use Rattle.dm_event.specs.declared.step.Entry.{Entry}
use Rattle.dm_event.specs.declared.step.Pair.{Pair}
use Rattle.dm_event.specs.declared.step.Step.{Step}
use Rattle.dm_model.specs.Acts.{entries}
use Rattle.dm_model.specs.Closed.{is_inside}

-- the value that the pairs give the key
abbrev pub written : List Pair → ℕ → Option ℤ
written [] key = None
written (p ∷ ps) key = if p.key == key then Some p.value else written ps key

-- what the latest writer of the key inside the vector wrote, of entries of which the latest stands first
abbrev pub newest : List Entry → ℕ → List ℕ → Option ℤ
newest [] key v = None
newest (entry ∷ more) key v = option_or (if is_inside v entry then written entry.writes key else None) (newest more key v)

-- the key's value at the vector
abbrev pub value : Layout → List Step → ℕ → List ℕ → ℤ
value layout past key v = unwrap_or (newest (entries past) key v) (opening_value layout key)
