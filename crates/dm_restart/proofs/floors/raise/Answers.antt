use Rattle.std.proofs.Common.{ℕ, length, arith, max, ap, List, ◌∙◌}
use Rattle.dm_event.specs.Vectors.{at, raised}
use Rattle.dm_steps.proofs.Components.{vector_is}
use Rattle.dm_restart.proofs.Maxima.{raises_next}
use Rattle.dm_restart.proofs.floors.raise.Goals as goal

pub loop-site-preserved : goal.loop-site-preserved
loop-site-preserved c =
    let long = c.loop-site.invariant.long in
    let same = ap (λ (v : List ℕ). length v) c.as_slice.ensures.same in
    raises_next c.args.vector.now c.args.other.now c.loop-site.site c.loop-site.vector c.set.new.self c.loop-site.invariant c.loop-site.auto.site
    (omega (arith, same, c.loop-site-test.true))
    (c.set.ensures
    ∙ ap (λ (n : ℕ). raised c.loop-site.vector c.loop-site.site n) (c.max.ensures ∙ (λ i. max (c.get.ensures i) (c.get-in-loop-site.ensures i))))

pub set-requires : goal.set-requires
set-requires c =
    let long = c.loop-site.invariant.long in
    let same = ap (λ (v : List ℕ). length v) c.as_slice.ensures.same in
    (c.loop-site.auto.site, omega (arith, long, same, c.loop-site-test.true))

pub returns : goal.returns
returns c =
    let same = ap (λ (v : List ℕ). length v) c.as_slice.ensures.same in
    vector_is (length c.args.vector.now) c.loop-site.vector (λ site. max (at c.args.vector.now site) (at c.args.other.now site)) c.loop-site.invariant.long
    (λ k l m. c.loop-site.invariant.done k l (omega (arith, m, same, c.loop-site-test.false)))
