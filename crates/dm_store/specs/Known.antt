-- The known keys, in the order in which they became known.
use Rattle.std.specs.List.{AllByRecursion}
use Rattle.std.specs.Prelude.{ℕ, if◌then◌else◌, List, [], ◌∷◌, ◌++◌, IsTrue}
use Rattle.dm_event.specs.declared.step.Pair.{Pair}
use Rattle.dm_model.specs.Tests.{is_among}

-- the known keys, and this one
abbrev pub with_known : List ℕ → ℕ → List ℕ
with_known known key = if is_among known key then known else known ++ key ∷ []

-- the key of each pair is known
abbrev pub AreKnown : List ℕ → List Pair → Type 0
AreKnown known ps = AllByRecursion (λ p. IsTrue (is_among known p.key)) ps
