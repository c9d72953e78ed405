use Rattle.std.proofs.Common.{◌≡◌, ◌≤◌, ◌-◌, ◌*◌}
use Rattle.std.specs.Prelude.{sum_by}
use Rattle.dm_event.specs.Vectors.{at, sites_to}
use Rattle.dm_placement.proofs.lag.lag.Given as goal

abbrev pub invariant-loop-site : goal.invariant-loop-site
invariant-loop-site l = record {
  sum : l.lag ≡ sum_by (λ j. at l.need j - at l.vector j) (sites_to (l.site - 1));
  bound : l.lag ≤ 18446744073709551615 * (l.site - 1);
}
