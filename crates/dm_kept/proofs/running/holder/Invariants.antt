use Rattle.std.proofs.Common.{◌≡◌, drop}
use Rattle.dm_kept.specs.Ledger.{past}
use Rattle.dm_model.specs.Allowed.{holder_among}
use Rattle.dm_runs.specs.Running.{running_in}
use Rattle.dm_kept.proofs.running.holder.Given as goal

abbrev pub invariant-loop-run : goal.invariant-loop-run
invariant-loop-run l =
    holder_among l.keys (running_in l.site (drop l.run-index l.runs)) (past l.kept) ≡ holder_among l.keys (running_in l.site l.runs) (past l.kept)
