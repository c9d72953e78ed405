-- The loads of the sites in parts: what stays where it is, and what is wanted.
use Rattle.std.specs.List.{range_with_len}
use Rattle.std.specs.Prelude.{ℕ, ◌==◌, ◌&&◌, not, List, filter, sum_by}
use Rattle.dm_model.specs.Scores.{weight}
use Rattle.dm_model.specs.Tests.{is_among}

-- the weights of the partitions with home at the site that aren't wanted
abbrev pub other_load : ℕ → List (List ℕ) → (ℕ → ℕ) → List ℕ → ℕ → ℕ
other_load parts sets home_of wanted site = sum_by (weight sets) (filter (λ p. (home_of p == site) && not (is_among wanted p)) (range_with_len 0 parts))

-- the weights of those that are
abbrev pub wanted_load : ℕ → List (List ℕ) → List ℕ → ℕ
wanted_load parts sets wanted = sum_by (weight sets) (filter (is_among wanted) (range_with_len 0 parts))
