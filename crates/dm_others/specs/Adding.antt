-- Lists of steps that grew by steps of others.
use Rattle.std.specs.Prelude.{◌≡◌, List}
use mathlib.Core.List.{IsPrefix}
use Rattle.dm_chronicle.specs.Belongs.{belongs}
use Rattle.dm_chronicle.specs.Rule.{mine}
use Rattle.dm_event.specs.Actors.{actors}
use Rattle.dm_event.specs.declared.actor.Actor.{Actor}
use Rattle.dm_event.specs.declared.step.Step.{Step}

-- the second list, which has the earliest first, has the first in front, and behind it no step of the actor
abbrev pub AddsOthers : Actor → List Step → List Step → Type 0
AddsOthers actor old new = IsPrefix old new × (mine (belongs actors) actor new ≡ mine (belongs actors) actor old)
