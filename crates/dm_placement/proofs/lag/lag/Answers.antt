use Rattle.std.proofs.Common.{ℕ, ◌-◌, ◌∙◌, ap₂, arith}
use Rattle.dm_event.specs.Vectors.{at}
use Rattle.dm_placement.proofs.Needs.{lag_more}
use Rattle.dm_placement.proofs.lag.lag.Goals as goal

pub loop-site-preserved : goal.loop-site-preserved
loop-site-preserved c = record {
  sum = lag_more (λ j. at c.args.need.now j - at c.args.vector.now j) c.loop-site.lag c.loop-site.site c.from-lag.result c.loop-site.invariant.sum
      (c.from-lag.ensures ∙ c.saturating_sub.ensures ∙ ap₂ (λ (a b : ℕ). a - b) c.get.ensures c.get-in-loop-site.ensures) (omega arith);
  bound = omega arith;
}
