use Rattle.std.proofs.Common.{◌≡◌, take}
use Rattle.std.specs.Prelude.{reverse}
use Rattle.dm_model.specs.Words.{latest, since}
use Rattle.dm_steps.specs.Adding.{routed_by}
use Rattle.dm_model.specs.Attempts.{is_reply}
use Rattle.dm_plain.proofs.attempts.current_txn.Given as goal

abbrev pub invariant-loop-step : goal.invariant-loop-step
invariant-loop-step l = l.last ≡ latest (routed_by l.session) (since (is_reply l.session) (reverse (take l.step-index l.steps)))
