-- Steps that stay allowed, whatever others do.
use Rattle.std.specs.Prelude.{List, reverse}
use Rattle.dm_event.specs.Layout.{Layout}
use Rattle.dm_event.specs.declared.actor.Actor.{Actor}
use Rattle.dm_event.specs.declared.step.Step.{Step}
use Rattle.dm_model.specs.Allowed.{Allowed}
use Rattle.dm_model.specs.Legal.{Legal}
use Rattle.dm_others.specs.Adding.{AddsOthers}

-- the step is allowed after each longer list in which neither the site nor the session has done a step
abbrev pub Lasts : Layout → Actor → Actor → List Step → Step → Type 0
Lasts layout site session old step =
    (new : List Step) → Legal layout new → AddsOthers site old new → AddsOthers session old new → Allowed layout (reverse new) step
