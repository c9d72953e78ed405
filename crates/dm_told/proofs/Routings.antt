-- What code keeps of a Route.
use Rattle.std.proofs.Common.{◌≡◌, Option, Some, None, refl}
use Rattle.std.specs.Prelude.{option_map, is_some}
use Rattle.dm_model.specs.Attempts.{Routing}
use Rattle.dm_told.specs.Routings.{without_want}

pub some_routing : (o : Option Routing) → is_some (option_map without_want o) ≡ is_some o
some_routing None = refl
some_routing (Some r) = refl
