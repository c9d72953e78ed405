use Rattle.std.proofs.Common.{◌≡◌, take}
use Rattle.std.specs.Prelude.{reverse, ◌==◌}
use Rattle.dm_model.specs.Words.{latest}
use Rattle.dm_model.specs.Runs.{begin_of}
use Rattle.dm_plain.proofs.running.last_begin.Given as goal

abbrev pub invariant-loop-step : goal.invariant-loop-step
invariant-loop-step l = l.last ≡ latest (begin_of (λ t. t.session == l.session)) (reverse (take l.step-index l.steps))
