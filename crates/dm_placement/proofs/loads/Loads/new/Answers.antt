use Rattle.std.proofs.Common.{ℕ, ◌+◌, ◌-◌, ◌*◌, ◌≤◌, List, length, get_or, refl, sym, ap, ◌∙◌, arith, subst, length-set}
use Rattle.dm_model.specs.Scores.{weight}
use Rattle.dm_model.specs.Tests.{is_among}
use Rattle.dm_placement.proofs.Tallies.{Tallied, is_home, stays, tally_add, tally_skip, tally_sums, tally_wanted, it_stays, it_moves, one_passes}
use Rattle.dm_placement.proofs.Tallies.{one_fails, set_bound}
use Rattle.dm_placement.proofs.loads.Loads.new.Goals as goal
use Rattle.dm_placement.proofs.loads.Loads.new.Goals.{then-holds, else-holds}

pub loop-index-preserved : goal.loop-index-preserved
loop-index-preserved c =
    let home = get_or c.args.homes.now c.loop-index.index 0 in
    let at_home : (1 ≤ home) × (home ≤ 8) = c.requires.sites c.loop-index.index 0 (omega arith) in
    record {
      held = tally_add (λ i. 0) (is_home c.args.homes.now) (weight c.args.window.now) c.loop-index.held c.loop-index.index home
          c.weight-weight.result
          c.loop-index.invariant.held c.loop-index.invariant.held_length at_home.0 at_home.1 (λ site. refl) c.weight-weight.ensures.exact;
      others = elim c.if-holds.branch [
        | then-holds w ↦ subst (λ (xs : List ℕ). Tallied (λ i. 0) (stays c.args.wanted.now c.args.homes.now) (weight c.args.window.now) xs
            (c.loop-index.index + 1)) (sym w.others-is)
            (tally_skip (λ i. 0) (stays c.args.wanted.now c.args.homes.now) (weight c.args.window.now) c.loop-index.others c.loop-index.index
            c.loop-index.invariant.others (λ site. it_moves c.args.wanted.now c.args.homes.now c.loop-index.index site (sym w.if-holds.ensures.exact)))
        | else-holds w ↦ subst (λ (xs : List ℕ). Tallied (λ i. 0) (stays c.args.wanted.now c.args.homes.now) (weight c.args.window.now) xs
            (c.loop-index.index + 1)) (sym w.others-is)
            (tally_add (λ i. 0) (stays c.args.wanted.now c.args.homes.now) (weight c.args.window.now) c.loop-index.others c.loop-index.index home
            c.weight-weight.result
            c.loop-index.invariant.others c.loop-index.invariant.others_length at_home.0 at_home.1
            (λ site. it_stays c.args.wanted.now c.args.homes.now c.loop-index.index site (sym w.if-holds.ensures.exact)) c.weight-weight.ensures.exact)
      ];
      moving = elim c.if-holds.branch [
        | then-holds w ↦ (w.moving-is ∙ one_passes (is_among c.args.wanted.now) (weight c.args.window.now) c.loop-index.index c.loop-index.moving
            c.weight-weight.result
            c.loop-index.invariant.moving (sym w.if-holds.ensures.exact) c.weight-weight.ensures.exact)
        | else-holds w ↦ (w.moving-is ∙ one_fails (is_among c.args.wanted.now) (weight c.args.window.now) c.loop-index.index c.loop-index.moving
            c.loop-index.invariant.moving (sym w.if-holds.ensures.exact))
      ];
      held_bound = λ k. set_bound c.loop-index.held (home - 1) (get_or c.loop-index.held (home - 1) 0 + c.weight-weight.result) k
          (256 * (c.loop-index.index + 1))
          (omega (arith, c.loop-index.invariant.held_bound (home - 1), c.weight-weight.ensures.bound)) (omega (arith, c.loop-index.invariant.held_bound k));
      others_bound = λ k. elim c.if-holds.branch [
        | then-holds w ↦ subst (λ (xs : List ℕ). get_or xs k 0 ≤ 256 * (c.loop-index.index + 1)) (sym w.others-is)
            (omega (arith, c.loop-index.invariant.others_bound k))
        | else-holds w ↦ subst (λ (xs : List ℕ). get_or xs k 0 ≤ 256 * (c.loop-index.index + 1)) (sym w.others-is)
            (set_bound c.loop-index.others (home - 1) (get_or c.loop-index.others (home - 1) 0 + c.weight-weight.result) k (256 * (c.loop-index.index + 1))
            (omega (arith, c.loop-index.invariant.others_bound (home - 1), c.weight-weight.ensures.bound))
            (omega (arith, c.loop-index.invariant.others_bound k)))
      ];
      held_length = length-set c.loop-index.held (home - 1) _ ∙ c.loop-index.invariant.held_length;
      others_length = elim c.if-holds.branch [
        | then-holds w ↦ (ap (λ (xs : List ℕ). length xs) w.others-is ∙ c.loop-index.invariant.others_length)
        | else-holds w ↦ (ap (λ (xs : List ℕ). length xs) w.others-is ∙ length-set c.loop-index.others (home - 1) _ ∙ c.loop-index.invariant.others_length)
      ];
      moving_bound = elim c.if-holds.branch [
        | then-holds w ↦ omega (arith, c.weight-weight.ensures.bound)
        | else-holds w ↦ omega arith
      ];
    }

pub returns-clause-held : goal.returns-clause-held
returns-clause-held c = tally_sums (is_home c.args.homes.now) (weight c.args.window.now) c.loop-index.held c.loop-index.index
    (length c.args.homes.now) c.loop-index.invariant.held (omega arith)

pub returns-clause-others : goal.returns-clause-others
returns-clause-others c = tally_sums (stays c.args.wanted.now c.args.homes.now) (weight c.args.window.now) c.loop-index.others c.loop-index.index
    (length c.args.homes.now) c.loop-index.invariant.others (omega arith)

pub returns-clause-wanted : goal.returns-clause-wanted
returns-clause-wanted c = tally_wanted c.args.wanted.now (weight c.args.window.now) c.loop-index.moving c.loop-index.index
    (length c.args.homes.now) c.loop-index.invariant.moving (omega arith)
