use Rattle.std.proofs.Common.{◌≡◌, take}
use Rattle.std.specs.Prelude.{reverse, option_copied}
use Rattle.dm_model.specs.Doubts.{doubt_at}
use Rattle.dm_model.specs.Words.{latest}
use Rattle.dm_plain.proofs.doubts.pending_at.Given as goal

abbrev pub invariant-loop-step : goal.invariant-loop-step
invariant-loop-step l = option_copied l.last ≡ latest (doubt_at l.site) (reverse (take l.step-index l.steps))
