use Rattle.std.proofs.Common.{ℕ, ◌+◌, ◌-◌, ◌≤◌, ◌≡◌, get_or}
use Rattle.dm_event.specs.Parts.{in_order}
use Rattle.dm_placement.proofs.Tallies.{Tallied, is_other}
use Rattle.dm_placement.proofs.together.count_others.Given as goal

abbrev pub invariant-loop-index : goal.invariant-loop-index
invariant-loop-index l = record {
  counted : Tallied (λ site. get_or l.initial.counts (site - 1) 0) (is_other l.set l.wanted l.homes) (λ p. 1) l.counts l.index;
  ascends : 1 ≤ l.index → l.set ≡ in_order l.set;
  bound : (k : ℕ) → get_or l.counts k 0 ≤ get_or l.initial.counts k 0 + l.index;
}
