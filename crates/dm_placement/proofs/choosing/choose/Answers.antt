use Rattle.std.proofs.Common.{ℕ, ◌+◌, ◌-◌, ◌<◌, ◌≡◌, get_or, length, sym, ap, ◌∙◌, arith, subst, below_more}
use Rattle.std.specs.Prelude.{pos, ◌<ℤ◌, ◌≤ℤ◌}
use Rattle.dm_placement.specs.Scored.{score_in}
use Rattle.dm_placement.proofs.Leading.{chosen, same_le, same_lt, le_lt, lt_le, le_self, read_lt, read_le, score_fits}
use Rattle.dm_placement.proofs.choosing.choose.Goals as goal
use Rattle.dm_placement.proofs.choosing.choose.Goals.{then-scores-best, else-scores-best}

pub loop-index-preserved : goal.loop-index-preserved
loop-index-preserved c =
    let score = λ (k : ℕ). get_or c.scores-scores.result k (pos 0) in
    elim c.if-scores-best.branch [
      | then-scores-best w ↦ (let lower = read_lt (score c.loop-index.best) (score c.loop-index.index)
          (score_fits c.scores-scores.result c.scores-scores.ensures.bound c.loop-index.best)
          (score_fits c.scores-scores.result c.scores-scores.ensures.bound c.loop-index.index) w.if-scores-best.true in record {
            within = omega (arith, w.best-is);
            greatest = subst (λ (b : ℕ). (k : ℕ) → k < c.loop-index.index + 1 → score k ≤ℤ score b) (sym w.best-is)
                (below_more (λ k. score k ≤ℤ score c.loop-index.index) c.loop-index.index
                (λ k l. lt_le (score k) (score c.loop-index.index) (le_lt (score k) (score c.loop-index.best) (score c.loop-index.index)
                (c.loop-index.invariant.greatest k l) lower))
                (le_self (score c.loop-index.index)));
            least = subst (λ (b : ℕ). (k : ℕ) → k < b → score k <ℤ score b) (sym w.best-is)
                (λ k l. le_lt (score k) (score c.loop-index.best) (score c.loop-index.index) (c.loop-index.invariant.greatest k l) lower);
          })
      | else-scores-best w ↦ record {
        within = omega (arith, w.best-is);
        greatest = subst (λ (b : ℕ). (k : ℕ) → k < c.loop-index.index + 1 → score k ≤ℤ score b) (sym w.best-is)
            (below_more (λ k. score k ≤ℤ score c.loop-index.best) c.loop-index.index c.loop-index.invariant.greatest
            (read_le (score c.loop-index.best) (score c.loop-index.index) (score_fits c.scores-scores.result c.scores-scores.ensures.bound c.loop-index.best)
            (score_fits c.scores-scores.result c.scores-scores.ensures.bound c.loop-index.index) w.if-scores-best.false));
        least = subst (λ (b : ℕ). (k : ℕ) → k < b → score k <ℤ score b) (sym w.best-is) c.loop-index.invariant.least;
      }
    ]

pub returns-clause-greatest : goal.returns-clause-greatest
returns-clause-greatest c = λ site lo hi.
    let score = λ (k : ℕ). get_or c.scores-scores.result k (pos 0) in
    let best_is : score c.loop-index.best ≡ score_in c.args.weights c.args.window.now c.args.homes.now c.args.vectors.now c.args.wanted
    (c.loop-index.best + 1) =
    ap score (let e : c.loop-index.best ≡ c.loop-index.best + 1 - 1 = omega arith in e)
    ∙ c.scores-scores.ensures.each (c.loop-index.best + 1) (omega arith) (omega (arith, c.requires.sites)) in
    same_le (score (site - 1)) (score c.loop-index.best) _ _ (c.scores-scores.ensures.each site lo hi) best_is
    (c.loop-index.invariant.greatest (site - 1) (omega arith))

pub returns-clause-least : goal.returns-clause-least
returns-clause-least c = λ site lo less.
    let score = λ (k : ℕ). get_or c.scores-scores.result k (pos 0) in
    let best_is : score c.loop-index.best ≡ score_in c.args.weights c.args.window.now c.args.homes.now c.args.vectors.now c.args.wanted
    (c.loop-index.best + 1) =
    ap score (let e : c.loop-index.best ≡ c.loop-index.best + 1 - 1 = omega arith in e)
    ∙ c.scores-scores.ensures.each (c.loop-index.best + 1) (omega arith) (omega (arith, c.requires.sites)) in
    same_lt (score (site - 1)) (score c.loop-index.best) _ _ (c.scores-scores.ensures.each site lo (omega (arith, c.requires.sites))) best_is
    (c.loop-index.invariant.least (site - 1) (omega arith))

pub returns-clause-due : goal.returns-clause-due
returns-clause-due c =
    sym (chosen (score_in c.args.weights c.args.window.now c.args.homes.now c.args.vectors.now c.args.wanted) (length c.args.vectors.now)
    (c.loop-index.best + 1) (omega arith) (omega (arith, c.requires.sites))
    (returns-clause-greatest c) (returns-clause-least c))
