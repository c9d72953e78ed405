use Rattle.std.proofs.Common.{◌≡◌, ◌≤◌, take}
use Rattle.std.specs.Prelude.{reverse}
use Rattle.dm_model.specs.Words.{since, count_of}
use Rattle.dm_model.specs.Progress.{is_refresh, is_restart}
use Rattle.dm_plain.proofs.progress.refreshes.Given as goal

abbrev pub invariant-loop-step : goal.invariant-loop-step
invariant-loop-step l = (l.count ≡ count_of (is_refresh l.site l.origin) (since (is_restart l.site) (reverse (take l.step-index l.steps))))
    × (l.count ≤ l.step-index)
