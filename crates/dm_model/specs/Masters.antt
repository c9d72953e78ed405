-- The pairs of a partition and an epoch that each site masters.
use Rattle.std.specs.List.{list_any}
use Rattle.std.specs.Prelude.{ℕ, Bool, false, ◌==◌, ◌&&◌, ◌||◌, not, List, slice_index}
use Rattle.dm_event.specs.Layout.{Layout}
use Rattle.dm_event.specs.declared.step.Step.{Step}
use Rattle.dm_event.specs.declared.step.Step.TheVariants.{Release, Grant}
use Rattle.dm_model.specs.Acts.{acts}

-- the act gives the pair to the site
abbrev pub grants : ℕ → ℕ → ℕ → Step → Bool
grants i p e (Grant site part epoch vector) = (site == i) && ((part == p) && (epoch == e))
grants i p e s = false

-- the act takes the pair from the site
abbrev pub releases : ℕ → ℕ → ℕ → Step → Bool
releases i p e (Release site part epoch to vector) = (site == i) && ((part == p) && (epoch == e))
releases i p e s = false

abbrev pub opens_with : Layout → ℕ → ℕ → ℕ → Bool
opens_with layout site part epoch = (slice_index layout.masters part == site) && (epoch == 0)

-- the pair was the site's at the opening or granted to it, and the site did not release it
abbrev pub masters : Layout → List Step → ℕ → ℕ → ℕ → Bool
masters layout past site part epoch =
    (opens_with layout site part epoch || list_any (grants site part epoch) (acts past)) && not (list_any (releases site part epoch) (acts past))
