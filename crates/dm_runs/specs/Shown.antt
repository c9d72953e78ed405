-- What is seen of the attempts that run: each with its site, the earliest begun first, and for how many more there is room.
use Rattle.std.specs.Prelude.{ℕ, List}
use Rattle.dm_runs.specs.declared.run.Run.{Run}

pub record Shown : Type 0 where
  pub runs : List Run
  pub room : ℕ
