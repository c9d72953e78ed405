-- The order of the writers of a key.
use Rattle.std.specs.List.{list_any, AllByRecursion}
use Rattle.std.specs.Prelude.{ℕ, Bool, ◌==◌, List, [], ◌∷◌, reverse, IsTrue}
use Rattle.dm_event.specs.Entries.{commit_vector}
use Rattle.dm_event.specs.Vectors.{AtMost}
use Rattle.dm_event.specs.declared.step.Entry.{Entry}
use Rattle.dm_event.specs.declared.step.Step.{Step}
use Rattle.dm_model.specs.Acts.{entries}

abbrev pub writes_key : Entry → ℕ → Bool
writes_key e key = list_any (λ p. p.key == key) e.writes

-- where the two write one key, the later one began at a vector that holds the earlier one's commit
abbrev pub Follows : Entry → Entry → Type 0
Follows later earlier = (key : ℕ) → IsTrue (writes_key later key) → IsTrue (writes_key earlier key) → AtMost (commit_vector earlier) later.begin

-- each of the entries follows those behind it
abbrev pub OrderedEntries : List Entry → Type 0
OrderedEntries [] = Unit {0}
OrderedEntries (e ∷ es) = AllByRecursion (Follows e) es × OrderedEntries es

-- of two committed writers of a key, the later one began at a vector that holds the earlier one's commit
abbrev pub Ordered : List Step → Type 0
Ordered history = OrderedEntries (entries (reverse history))
