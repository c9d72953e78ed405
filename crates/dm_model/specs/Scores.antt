-- How good a site is for a transaction. The scores are made of these: the number of sites and of partitions, the sets of
-- partitions of the transactions before, the home of each partition, the vector of each site, and the wanted partitions.
use Rattle.std.specs.List.{list_any, range_with_len}
use Rattle.std.specs.Prelude.{ℕ, ◌-◌, ◌*◌, ℤ, pos, ◌+ℤ◌, ◌-ℤ◌, ◌*ℤ◌, nat_abs, ◌==◌, int_lt, ◌&&◌, not, if◌then◌else◌, List, [], ◌∷◌, filter, count_by, map}
use Rattle.std.specs.Prelude.{sum_by}
use Rattle.dm_event.specs.Vectors.{at, sites_to, join_all}
use Rattle.dm_event.specs.declared.schema.Weights.{Weights}
use Rattle.dm_model.specs.Tests.{is_among}

-- in how many of the sets the partition is
abbrev pub weight : List (List ℕ) → ℕ → ℕ
weight sets p = count_by (λ set. is_among set p) sets

module _ (sites parts : ℕ) (sets : List (List ℕ)) where
  -- the weights of the partitions with home at the site
  abbrev pub load : (ℕ → ℕ) → ℕ → ℕ
  load home_of site = sum_by (weight sets) (filter (λ p. home_of p == site) (range_with_len 0 parts))

  -- how far the loads are from even, times the number of sites
  abbrev pub uneven : (ℕ → ℕ) → ℕ
  uneven home_of =
      sum_by (λ site. nat_abs (pos (sites * load home_of site) -ℤ pos (sum_by (load home_of) (sites_to sites)))) (sites_to sites)

  -- the homes, with the wanted partitions at the site
  abbrev pub moved_to : (ℕ → ℕ) → List ℕ → ℕ → ℕ → ℕ
  moved_to home_of wanted site p = if is_among wanted p then site else home_of p

  -- how much more even the loads would be with the wanted partitions at the site
  abbrev pub balance : (ℕ → ℕ) → List ℕ → ℕ → ℤ
  balance home_of wanted site = pos (uneven home_of) -ℤ pos (uneven (moved_to home_of wanted site))

-- how many entries the site lacks of what the homes of the wanted partitions have
abbrev pub lag : ℕ → (ℕ → ℕ) → (ℕ → List ℕ) → List ℕ → ℕ → ℕ
lag sites home_of vector_of wanted site =
    sum_by (λ j. at (join_all sites (map (λ p. vector_of (home_of p)) wanted)) j - at (vector_of site) j) (sites_to sites)

-- how often a partition with home at the site was used together with a wanted one
abbrev pub together : List (List ℕ) → (ℕ → ℕ) → List ℕ → ℕ → ℕ
together sets home_of wanted site =
    sum_by (λ set. if list_any (is_among set) wanted then count_by (λ p. not (is_among wanted p) && (home_of p == site)) set else 0) sets

abbrev pub score_of : Weights → ℕ → ℕ → List (List ℕ) → (ℕ → ℕ) → (ℕ → List ℕ) → List ℕ → ℕ → ℤ
score_of weights sites parts sets home_of vector_of wanted site =
    ((pos weights.balance *ℤ balance sites parts sets home_of wanted site)
    -ℤ (pos weights.delay *ℤ pos (lag sites home_of vector_of wanted site)))
    +ℤ (pos weights.together *ℤ pos (together sets home_of wanted site))

-- of the sites, the first of greatest score, where the best so far is given
abbrev pub best_site : (ℕ → ℤ) → List ℕ → ℕ → ℕ
best_site f [] best = best
best_site f (site ∷ more) best = best_site f more (if int_lt (f best) (f site) then site else best)
