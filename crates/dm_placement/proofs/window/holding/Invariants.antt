use Rattle.std.proofs.Common.{◌≡◌, ◌≤◌, take}
use Rattle.std.specs.List.{count_by}
use Rattle.dm_model.specs.Tests.{is_among}
use Rattle.dm_placement.proofs.window.holding.Given as goal

abbrev pub invariant-loop-set : goal.invariant-loop-set
invariant-loop-set l = record {
  exact : l.count ≡ count_by (λ set. is_among set l.part) (take l.set-index l.sets);
  bound : l.count ≤ l.set-index;
}
