-- Vectors that hold, with each entry, all that the entry saw.
use Rattle.std.specs.List.{AllByRecursion}
use Rattle.std.specs.Prelude.{ℕ, ◌≤◌, Bool, ◌&&◌, not, List, Option, find, IsTrue}
use Rattle.dm_event.specs.Vectors.{at, has_number, is_at_most, AtMost}
use Rattle.dm_event.specs.declared.step.Entry.{Entry}
use Rattle.dm_event.specs.declared.step.Step.{Step}
use Rattle.dm_model.specs.Acts.{entries}
use Rattle.dm_model.specs.Progress.{entry_count}

abbrev pub is_inside : List ℕ → Entry → Bool
is_inside v e = has_number v e.origin e.seq

-- the vector is at most the full one, and each entry inside it began at a vector at most it
pub record Closed (v : List ℕ) (past : List Step) : Type 0 where
  pub within : (origin : ℕ) → at v origin ≤ entry_count origin past
  pub begun : AllByRecursion (λ e. IsTrue (is_inside v e) → AtMost e.begin v) (entries past)

-- the first entry inside the vector that began at a vector not at most it
abbrev pub unclosed : List ℕ → List Entry → Option Entry
unclosed v es = find (λ e. is_inside v e && not (is_at_most e.begin v)) es
