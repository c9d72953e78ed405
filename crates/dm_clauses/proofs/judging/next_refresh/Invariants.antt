use Rattle.std.proofs.Common.{◌≡◌, ◌<◌, ◌≤◌, ℕ, false}
use Rattle.std.specs.Prelude.{is_none}
use Rattle.dm_event.specs.declared.step.Step.TheVariants.{Refresh}
use Rattle.dm_model.specs.Allowed.{refusal}
use Rattle.dm_clauses.proofs.judging.next_refresh.Given as goal

abbrev pub invariant-loop-origin : goal.invariant-loop-origin
invariant-loop-origin g l = (k : ℕ) → 1 ≤ k → k < l.origin → is_none (refusal (g.T.Told.layout l.told) (g.T.Told.past l.told) (Refresh l.site k)) ≡ false
