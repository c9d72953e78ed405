use Rattle.std.proofs.Common.{ℕ, ◌+◌, ◌<◌, ◌≡◌, length, Bool, true, false, List, cond, get_or, sym, ap, ap₂, ◌∙◌, arith, take}
use Rattle.std.specs.List.{count_by}
use Rattle.std.proofs.lemmas.List.Sums.{sum_by_more}
use Rattle.dm_model.specs.Tests.{is_among}
use Rattle.dm_placement.proofs.window.holding.Goals as goal
use Rattle.dm_placement.proofs.window.holding.Goals.{then-holds, else-holds}

-- one set more
one_more : (part : ℕ) (sets : List (List ℕ)) (i before now : ℕ) (d : List ℕ) (b : Bool) → i < length sets
    → before ≡ count_by (λ set. is_among set part) (take i sets) → b ≡ is_among (get_or sets i d) part → now ≡ before + cond b 1 0
    → now ≡ count_by (λ set. is_among set part) (take (i + 1) sets)
one_more part sets i before now d b l e f g =
    g ∙ ap₂ (λ (n : ℕ) (a : Bool). n + cond a 1 0) e f ∙ sym (sum_by_more (λ set. cond (is_among set part) 1 0) sets i d l)

pub loop-set-preserved : goal.loop-set-preserved
loop-set-preserved c =
    let more = one_more c.args.part c.args.sets.now c.loop-set.set-index c.loop-set.count c.if-holds.count in
    record {
      exact = elim c.if-holds.branch [
        | then-holds w ↦ more c.set-item.result true c.loop-set-test.true c.loop-set.invariant.exact
            (w.if-holds.ensures.exact ∙ ap (λ (set : List ℕ). is_among set c.args.part) c.set-item.is) w.count-is
        | else-holds w ↦ more c.set-item.result false c.loop-set-test.true c.loop-set.invariant.exact
            (w.if-holds.ensures.exact ∙ ap (λ (set : List ℕ). is_among set c.args.part) c.set-item.is) (w.count-is ∙ omega arith)
      ];
      bound = elim c.if-holds.branch [
        | then-holds w ↦ omega (arith, w.count-is, c.loop-set.invariant.bound)
        | else-holds w ↦ omega (arith, w.count-is, c.loop-set.invariant.bound)
      ];
    }
