-- Whose a number is.
use Rattle.std.specs.Prelude.{ℕ, ◌%◌, Option, None}
use Rattle.dm_event.specs.declared.actor.Actor.{Actor}
use Rattle.dm_event.specs.declared.actor.Actor.TheVariants.{Session}

-- session a has the numbers that leave a when divided by 8
abbrev pub leaves : ℕ → Actor × Option Actor
leaves x = (Session (x % 8), None)
