use Rattle.std.proofs.Common.{ℕ, ◌+◌, ◌-◌, ◌≡◌, ◌≤◌, List, subst, refl, sym, ap, ◌∙◌, arith, get_or, length, length-set}
use Rattle.dm_placement.proofs.Tallies.{Tallied, tally_all, tally_add, tally_skip, is_other, others_counted, it_counts, it_fails, it_is_wanted, one_added}
use Rattle.dm_placement.proofs.together.count_others.Goals as goal
use Rattle.dm_placement.proofs.together.count_others.Goals.{then-holds+then-not-holds, else-holds, else-holds-via-then-holds+else-not-holds}
use Rattle.dm_placement.proofs.together.count_others.Goals.{else-holds-via-else-holds}

pub loop-index-preserved : goal.loop-index-preserved
loop-index-preserved c =
    let set = c.args.set.now in
    let wanted = c.args.wanted.now in
    let homes = c.args.homes.now in
    let base = λ (i : ℕ). get_or c.args.counts.now (i - 1) 0 in
    let n = c.loop-index.index in
    let home = get_or homes n 0 in
    let at_home : (1 ≤ home) × (home ≤ 8) = c.requires.sites n 0 (omega arith) in
    record {
      counted = elim c.if-holds.branch [
        | then-holds+then-not-holds w ↦ subst (λ (xs : List ℕ). Tallied base (is_other set wanted homes) (λ p. 1) xs (n + 1)) (sym w.counts-is)
            (tally_add base (is_other set wanted homes) (λ p. 1) c.loop-index.counts n home 1 c.loop-index.invariant.counted
            (sym (length-set c.loop-index.counts (home - 1) _) ∙ sym (ap (λ (xs : List ℕ). length xs) w.counts-is) ∙ c.if-holds.array_long)
            at_home.0 at_home.1
            (λ site. it_counts set wanted homes n site (sym w.if-holds.ensures.exact) (sym w.holds-then-holds.ensures.exact ∙ w.if-not-holds.true)) refl)
        | else-holds w ↦ subst (λ (xs : List ℕ). Tallied base (is_other set wanted homes) (λ p. 1) xs (n + 1)) (sym w.counts-is)
            (tally_skip base (is_other set wanted homes) (λ p. 1) c.loop-index.counts n c.loop-index.invariant.counted
            (elim w.else-holds.branch [
              | else-holds-via-then-holds+else-not-holds v ↦
                  λ site. it_is_wanted set wanted homes n site (sym v.holds-then-holds.ensures.exact ∙ v.if-not-holds.false)
              | else-holds-via-else-holds v ↦ λ site. it_fails set wanted homes n site (sym v.if-holds.ensures.exact)
            ]))
      ];
      ascends = λ some. c.holds.ensures.ascends;
      bound = λ k. elim c.if-holds.branch [
        | then-holds+then-not-holds w ↦ subst (λ (xs : List ℕ). get_or xs k 0 ≤ get_or c.args.counts.now k 0 + (n + 1)) (sym w.counts-is)
            (one_added c.loop-index.counts (home - 1) k (get_or c.args.counts.now k 0) n (c.loop-index.invariant.bound k))
        | else-holds w ↦ subst (λ (xs : List ℕ). get_or xs k 0 ≤ get_or c.args.counts.now k 0 + (n + 1)) (sym w.counts-is)
            (omega (arith, c.loop-index.invariant.bound k))
      ];
    }

pub returns-clause-counted : goal.returns-clause-counted
returns-clause-counted c = λ site lo hi.
    let at_end : c.loop-index.index ≡ length c.args.homes.now = omega arith in
    tally_all (λ i. get_or c.args.counts.now (i - 1) 0) (is_other c.args.set.now c.args.wanted.now c.args.homes.now) (λ p. 1) c.loop-index.counts
    c.loop-index.index (length c.args.homes.now) c.loop-index.invariant.counted at_end site lo hi
    ∙ ap (λ (n : ℕ). get_or c.args.counts.now (site - 1) 0 + n) (sym (others_counted c.args.set.now c.args.wanted.now c.args.homes.now site lo c.requires.few
    (λ some. c.loop-index.invariant.ascends (omega (arith, some, at_end)))))
