use Rattle.std.proofs.Common.{◌≡◌, ◌≤◌, take}
use Rattle.std.specs.Prelude.{reverse}
use Rattle.dm_report.specs.Totals.{total}
use Rattle.dm_report.proofs.totals.total.Given as goal

abbrev pub invariant-loop-step : goal.invariant-loop-step
invariant-loop-step l = (l.count ≡ total l.outcome (reverse (take l.step-index l.steps))) × (l.count ≤ l.step-index)
