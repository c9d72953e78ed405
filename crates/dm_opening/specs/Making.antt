-- Sites that are made, the last first.
use Rattle.std.specs.Prelude.{◌≡◌, ℕ, ◌+◌, List, [], ◌∷◌}
use Rattle.dm_invariant.specs.Stations.{Station}

-- the sites have the numbers from this one on
abbrev pub AreNumbered : {D : Type 0} → ℕ → List (Station D) → Type 0
AreNumbered number [] = Unit {0}
AreNumbered number (site ∷ sites) = (site.number ≡ number) × AreNumbered (number + 1) sites
