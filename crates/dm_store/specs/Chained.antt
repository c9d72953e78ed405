-- What the chains show.
use Rattle.std.specs.Prelude.{ℕ, List}
use Rattle.dm_store.specs.declared.version.Version.{Version}

-- the known keys, all versions, the latest first, and for how many more there is room
pub record Chained : Type 0 where
  pub known : List ℕ
  pub versions : List Version
  pub room : ℕ
