use Rattle.std.proofs.Common.{◌*◌, ◌≤◌, ◌≡◌, take, length}
use Rattle.std.specs.Prelude.{sum, sum_by, nat_abs, pos, ◌-ℤ◌}
use Rattle.dm_placement.proofs.loads.uneven.Given as goal

abbrev pub invariant-loop-load : goal.invariant-loop-load
invariant-loop-load l = record {
  far : l.uneven ≡ sum_by (λ load. nat_abs (pos (length l.loads * load) -ℤ pos (sum l.loads))) (take l.load-index l.loads);
  bound : l.uneven ≤ 1048576 * l.load-index;
}
