use Rattle.std.proofs.Common.{◌≡◌, drop}
use Rattle.std.specs.Prelude.{find}
use Rattle.dm_kept.proofs.Holding.{is_on}
use Rattle.dm_kept.specs.Ledger.{past}
use Rattle.dm_runs.specs.Running.{running_in}
use Rattle.dm_kept.proofs.running.runner.Given as goal

abbrev pub invariant-loop-run : goal.invariant-loop-run
invariant-loop-run l =
    find (is_on l.kept.layout (past l.kept) l.part) (running_in l.site (drop l.run-index l.runs))
    ≡ find (is_on l.kept.layout (past l.kept) l.part) (running_in l.site l.runs)
