use Rattle.std.proofs.lemmas.Bool.{false_from_ne_true}
use Rattle.std.specs.Prelude.{reverse}
use Rattle.dm_model.proofs.RefreshesReachFull.{closed_floor, lagging_may_refresh, full_may_not_refresh}
use Rattle.dm_model.proofs.refreshes_reach_full.Goals as goal
use Rattle.dm_model.specs.Doubts.{is_down}

pub returns : goal.returns
returns c = record {
  floor_closed = λ layout history h. closed_floor layout (reverse history) h;
  lagging_may = λ layout history h site is up. lagging_may_refresh layout (reverse history) h site is (false_from_ne_true (is_down site (reverse history)) up);
  full_may_not = λ layout history h. full_may_not_refresh layout (reverse history) h;
}
