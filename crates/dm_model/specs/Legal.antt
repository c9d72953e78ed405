-- Legal histories.
use Rattle.std.specs.Prelude.{List, [], ◌∷◌, reverse}
use Rattle.dm_event.specs.Layout.{Layout}
use Rattle.dm_event.specs.declared.step.Step.{Step}
use Rattle.dm_model.specs.Allowed.{Allowed}

-- each step of the past is allowed by those before it
abbrev pub LegalPast : Layout → List Step → Type 0
LegalPast layout [] = Unit {0}
LegalPast layout (s ∷ past) = LegalPast layout past × Allowed layout past s

-- each step of the history, which has the earliest first, is allowed by those before it
abbrev pub Legal : Layout → List Step → Type 0
Legal layout history = LegalPast layout (reverse history)
