use Rattle.std.proofs.Common.{◌≡◌, ◌<◌, ◌≤◌, ℕ}
use Rattle.std.specs.Prelude.{reverse, false}
use Rattle.dm_model.specs.Runs.{runs}
use Rattle.dm_plain.proofs.running.run_site.Given as goal

abbrev pub invariant-loop-site : goal.invariant-loop-site
invariant-loop-site l = (k : ℕ) → 1 ≤ k → k < l.site → runs k l.txn (reverse l.steps) ≡ false
