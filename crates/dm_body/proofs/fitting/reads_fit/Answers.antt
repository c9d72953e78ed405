use Rattle.std.proofs.Common.{ℕ, ◌+◌, ◌≤◌, ◌≡◌, List, length, drop, rules, w64, SFits, to_z, of_z, subst, sym, ap, ◌∙◌}
use Rattle.std.proofs.lemmas.Int.{to_z-of_z}
use Rattle.dm_event.specs.declared.step.Op.TheVariants.{Read}
use Rattle.dm_event.specs.declared.step.Pair.{Pair}
use Rattle.dm_model.specs.Tests.{same_pairs}
use Rattle.dm_model.specs.Bodies.{body}
use Rattle.dm_body.proofs.OwnWrites.{reads_from, read_missed, read_met, reads_from-no_read}
use Rattle.dm_body.proofs.fitting.reads_fit.Goals as goal
use Rattle.dm_body.proofs.fitting.reads_fit.Goals.{in-Read+else-not-is_at, in_default}

-- the read that the op gives is not the next of the given ones
pub returns-then-not-is_at-clause-fits : goal.returns-then-not-is_at-clause-fits
returns-then-not-is_at-clause-fits g c =
    let f = g.V.View.values c.args.view.now in
    let fits : SFits w64 c.seen-value.result = search rules in
    read_missed f (g.V.View.values c.loop-done.view) c.args.ops.now c.args.reads.now c.loop-done.done c.loop-done.met c.in-Read.key (Read 0) c.seen-value.result
    (to_z w64 (of_z w64 c.seen-value.result)) c.is_at.result c.loop-done-test.true c.in-Read.is c.loop-done.invariant.values
    (to_z-of_z w64 c.seen-value.result fits) c.seen-value.ensures.seen c.is_at.ensures (same_pairs c.args.reads.now (body c.args.ops.now f).reads)
    c.if-not-is_at.true c.loop-done.invariant.rest

pub loop-done-preserved : goal.loop-done-preserved
loop-done-preserved g c =
    let f = g.V.View.values c.args.view.now in
    let all = same_pairs c.args.reads.now (body c.args.ops.now f).reads in
    let later = reads_from f c.args.ops.now (c.loop-done.done + 1) in
    elim c.match-op.branch [
      | in-Read+else-not-is_at w ↦ (
          let fits : SFits w64 w.seen-value.result = search rules in
          let more = read_met f (g.V.View.values c.loop-done.view) c.args.ops.now c.args.reads.now c.loop-done.done c.loop-done.met w.in-Read.key (Read 0)
          w.seen-value.result (to_z w64 (of_z w64 w.seen-value.result)) w.is_at.result c.loop-done-test.true w.in-Read.is c.loop-done.invariant.values
          (to_z-of_z w64 w.seen-value.result fits) w.seen-value.ensures.seen w.is_at.ensures all w.if-not-is_at.false c.loop-done.invariant.rest in
          record {
            within = subst (λ (n : ℕ). n ≤ length c.args.reads.now) (sym w.met-is) more.0;
            rest = subst (λ (n : ℕ). same_pairs (drop n c.args.reads.now) later ≡ all) (sym w.met-is) more.1;
            values = ap g.V.View.values w.view-is ∙ w.seen-value.ensures.values ∙ c.loop-done.invariant.values;
          })
      | in_default w ↦ record {
        within = subst (λ (n : ℕ). n ≤ length c.args.reads.now) (sym w.met-is) c.loop-done.invariant.within;
        rest = subst (λ (n : ℕ). same_pairs (drop n c.args.reads.now) later ≡ all) (sym w.met-is)
            (ap (λ (ps : List Pair). same_pairs (drop c.loop-done.met c.args.reads.now) ps)
            (sym (reads_from-no_read f c.args.ops.now c.loop-done.done (Read 0) c.loop-done-test.true w.in_default.not-Read)) ∙ c.loop-done.invariant.rest);
        values = ap g.V.View.values w.view-is ∙ c.loop-done.invariant.values;
      }
    ]
