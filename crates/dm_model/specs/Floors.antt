-- What a site may not lose: its own entries, and what it mastered partitions at.
use Rattle.std.specs.Prelude.{ℕ, ◌==◌, if◌then◌else◌, List, Option, Some, None, filter_map}
use Rattle.dm_event.specs.Entries.{commit_vector}
use Rattle.dm_event.specs.Vectors.{join_all}
use Rattle.dm_event.specs.declared.step.Step.{Step}
use Rattle.dm_event.specs.declared.step.Step.TheVariants.{Commit, Grant}
use Rattle.dm_model.specs.Acts.{acts}

-- the commit vector of an entry of the site, or the vector of a grant to it
abbrev pub floor_vector : ℕ → Step → Option (List ℕ)
floor_vector i (Commit entry) = if entry.origin == i then Some (commit_vector entry) else None
floor_vector i (Grant site part epoch vector) = if site == i then Some vector else None
floor_vector i s = None

abbrev pub floor_vectors : ℕ → List Step → List (List ℕ)
floor_vectors site past = filter_map (floor_vector site) (acts past)

-- the maximum of these vectors, zeros where there are none
abbrev pub floor : ℕ → List Step → ℕ → List ℕ
floor count past site = join_all count (floor_vectors site past)
