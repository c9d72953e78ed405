-- The scores of a window of sets, with a home for each partition and a vector for each site.
use Rattle.std.specs.List.{slice_index_or}
use Rattle.std.specs.Prelude.{ℕ, ◌-◌, ◌<◌, ◌≤◌, ℤ, IsTrue, All, List, [], length, slice_index}
use Rattle.dm_event.specs.Vectors.{sites_to}
use Rattle.dm_event.specs.declared.schema.Weights.{Weights}
use Rattle.dm_model.specs.Scores.{score_of, best_site}
use Rattle.dm_model.specs.Tests.{is_among}

-- the partition's home, and 0, which is no site, where there is no such partition
abbrev pub home_in : List ℕ → ℕ → ℕ
home_in homes p = slice_index homes p

-- the site's vector
abbrev pub vector_in : List (List ℕ) → ℕ → List ℕ
vector_in vectors site = slice_index_or vectors (site - 1) []

-- each home is one of the sites
abbrev pub AreSites : ℕ → List ℕ → Type 0
AreSites sites homes = All (λ home. (1 ≤ home) × (home ≤ sites)) homes

-- each partition of the set is one of the first ones, so many as have a home
abbrev pub HaveHomes : ℕ → List ℕ → Type 0
HaveHomes parts wanted = (p : ℕ) → IsTrue (is_among wanted p) → p < parts

-- the site's score for the wanted set
abbrev pub score_in : Weights → List (List ℕ) → List ℕ → List (List ℕ) → List ℕ → ℕ → ℤ
score_in weights window homes vectors wanted site =
    score_of weights (length vectors) (length homes) window (home_in homes) (vector_in vectors) wanted site

-- the least site of greatest score
abbrev pub choice_in : Weights → List (List ℕ) → List ℕ → List (List ℕ) → List ℕ → ℕ
choice_in weights window homes vectors wanted = best_site (score_in weights window homes vectors wanted) (sites_to (length vectors)) 1
