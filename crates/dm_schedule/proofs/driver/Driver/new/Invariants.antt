use Rattle.std.proofs.Common.{◌≡◌, replicate}
use Rattle.dm_body.specs.Progress.{nothing_done}
use Rattle.dm_schedule.proofs.driver.Driver.new.Given as goal

abbrev pub invariant-loop-session : goal.invariant-loop-session
invariant-loop-session l = l.overlays.items ≡ replicate l._session nothing_done
