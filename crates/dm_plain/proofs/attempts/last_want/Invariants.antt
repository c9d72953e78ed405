use Rattle.std.proofs.Common.{◌≡◌, take}
use Rattle.std.specs.Prelude.{reverse, option_copied}
use Rattle.dm_model.specs.Words.{latest}
use Rattle.dm_plain.specs.Routings.{wanted_by}
use Rattle.dm_plain.proofs.attempts.last_want.Given as goal

abbrev pub invariant-loop-step : goal.invariant-loop-step
invariant-loop-step l = option_copied l.last ≡ latest (wanted_by l.session) (reverse (take l.step-index l.steps))
