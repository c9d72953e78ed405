use Rattle.dm_next.proofs.Catching.{due_allowed, nothing_lacks}
use Rattle.dm_next.proofs.Growing.{counts_on}
use Rattle.dm_next.proofs.HandOvers.{release_closed, between_closed, closed_counts}
use Rattle.dm_next.proofs.Minima.{route_counts, routed_counts}
use Rattle.dm_next.proofs.minima_are_reached.Goals as goal

pub returns : goal.returns
returns c = record {
  route = route_counts;
  routed = routed_counts;
  release = λ layout past site part epoch to vector l h. let r = release_closed layout past site part epoch to vector l h in (r.counts, r.closed);
  between = λ layout past from part epoch to vector l e. let r = between_closed layout past from part epoch to vector l e in (r.counts, r.closed);
  closed = closed_counts;
  longer = counts_on;
  due = due_allowed;
  reached = nothing_lacks;
}
