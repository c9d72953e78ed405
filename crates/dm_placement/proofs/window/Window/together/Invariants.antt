use Rattle.std.proofs.Common.{ℕ, ◌≡◌, ◌-◌, ◌*◌, ◌≤◌, get_or, length, map}
use Rattle.dm_model.specs.Scores.{together}
use Rattle.dm_placement.specs.Scored.{home_in}
use Rattle.dm_placement.proofs.window.Window.together.Given as goal

abbrev pub invariant-loop-set : goal.invariant-loop-set
invariant-loop-set l = record {
  counted : (site : ℕ) → 1 ≤ site → site ≤ 8 → get_or l.counts (site - 1) 0 ≡ together (map (λ s. s.now) l.yielded) (home_in l.homes)
      l.wanted site;
  bound : (k : ℕ) → get_or l.counts k 0 ≤ 256 * length l.yielded;
}
