-- What stood settled last is among what stood settled.
use Rattle.std.proofs.Common.{ℕ, ◌≡◌, ◌==◌, true, List, [], ◌∷◌, Some}
use Rattle.std.proofs.lemmas.Bool.{false≢true, or_left}
use Rattle.std.specs.Option.{option_eq}
use Rattle.std.specs.Prelude.{eqb, slice_get}
use Rattle.dm_event.specs.Layout.{Layout}
use Rattle.dm_event.specs.declared.step.Step.{Step}
use Rattle.dm_model.specs.Outcomes.{settled_epochs}
use Rattle.dm_model.specs.Tests.{is_among}
use Rattle.dm_steps.specs.Next.{last_settled}

pub last_among : (layout : Layout) (past : List Step) (session site part epoch : ℕ)
    → option_eq eqb (last_settled layout past session part site) (Some epoch) ≡ true → is_among (settled_epochs layout past session part site) epoch ≡ true
last_among layout past session site part epoch h = by (settled_epochs layout past session part site) h
  where
    by : (xs : List ℕ) → option_eq eqb (slice_get xs 0) (Some epoch) ≡ true → is_among xs epoch ≡ true
    by [] e = absurd (false≢true e)
    by (x ∷ xs) e = or_left (x == epoch) (is_among xs epoch) e
