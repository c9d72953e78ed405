-- What a store shows.
use Rattle.std.specs.Prelude.{ℕ, List}
use Rattle.dm_event.specs.Layout.{Layout}
use Rattle.dm_store.specs.declared.past.Past.{Past}

-- what the schema says, the known keys, the installed transactions in order, and for how many further installs there is room
pub record Contents : Type 0 where
  pub layout : Layout
  pub known : List ℕ
  pub installed : List Past
  pub spare : ℕ
