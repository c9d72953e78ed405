-- What the fields of a list of steps say.
use Rattle.std.specs.Prelude.{◌≡◌, reverse}
use Rattle.dm_model.specs.Choices.{window as window_of}
use Rattle.dm_model.specs.Legal.{Legal}
use Rattle.dm_listed.specs.Tales.{Tale}
use Rattle.dm_listed.specs.declared.listed.Listed.TheInside.{Inside}

abbrev pub tale_of : Inside → Tale
tale_of l = record { layout = l.schema.now; past = reverse l.steps.now }

-- the list is legal, and the window is that of its last Routes with declared keys
pub record IsListed (l : Inside) : Type 0 where
  pub legal : Legal l.schema.now l.steps.now
  pub window : l.window.now ≡ reverse (window_of l.schema.now (reverse l.steps.now))
