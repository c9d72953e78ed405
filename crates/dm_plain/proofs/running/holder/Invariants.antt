use Rattle.std.proofs.Common.{◌≡◌, drop}
use Rattle.std.specs.Prelude.{reverse, filter_map, filter}
use Rattle.dm_model.specs.Allowed.{holder_among}
use Rattle.dm_model.specs.Runs.{runs, begun_at}
use Rattle.dm_event.specs.declared.step.TxnId.{TxnId}
use Rattle.dm_plain.proofs.running.holder.Given as goal

abbrev pub invariant-loop-step : goal.invariant-loop-step
invariant-loop-step l = holder_among l.keys (filter (λ (t : TxnId). runs l.site t (reverse l.steps)) (filter_map (begun_at l.site) (drop l.step-index l.steps)))
    (reverse l.steps) ≡ holder_among l.keys (filter (λ (t : TxnId). runs l.site t (reverse l.steps)) (filter_map (begun_at l.site) l.steps)) (reverse l.steps)
