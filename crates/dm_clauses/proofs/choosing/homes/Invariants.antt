use Rattle.std.proofs.Common.{◌≡◌, ◌<◌, ℕ, length}
use Rattle.std.specs.Prelude.{slice_index}
use Rattle.dm_model.specs.Choices.{home}
use Rattle.dm_clauses.proofs.choosing.homes.Given as goal

abbrev pub invariant-loop-part : goal.invariant-loop-part
invariant-loop-part g l = (length l.homes ≡ 256) × ((p : ℕ) → p < l.part → slice_index l.homes p ≡ home (g.T.Told.layout l.told) (g.T.Told.past l.told) p)
