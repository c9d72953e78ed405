-- That a list has the attempts that run after a past.
use Rattle.std.specs.List.{AllByRecursion}
use Rattle.std.specs.Prelude.{ℕ, ◌≡◌, ◌==◌, true, List, map, filter}
use Rattle.dm_event.specs.declared.step.Step.{Step}
use Rattle.dm_event.specs.declared.step.TxnId.{TxnId}
use Rattle.dm_model.specs.Runs.{runs, running}
use Rattle.dm_runs.specs.declared.run.Run.{Run}

-- those at the site
abbrev pub running_in : ℕ → List Run → List TxnId
running_in site rs = map (λ r. r.txn) (filter (λ r. r.site == site) rs)

-- these are the attempts that run, the earliest begun first
pub record AreRuns (past : List Step) (rs : List Run) : Type 0 where
  pub each : AllByRecursion (λ r. runs r.site r.txn past ≡ true) rs
  pub at_site : (site : ℕ) → running_in site rs ≡ running site past
