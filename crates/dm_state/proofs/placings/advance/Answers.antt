use Rattle.std.proofs.Common.{◌≡◌, Some, refl, arith, ◌∙◌, sym}
use Rattle.std.proofs.lemmas.Option.{slice_get_read}
use Rattle.std.specs.Prelude.{option_copied}
use Rattle.dm_event.specs.declared.placing.Placing.{Placing}
use Rattle.dm_steps.proofs.Slots.{slot_one, slots_none}
use Rattle.dm_steps.specs.Next.{next_placing}
use Rattle.dm_state.proofs.Unmoved.{unmoved}
use Rattle.dm_state.specs.Moving.{moved}
use Rattle.dm_state.proofs.placings.advance.Goals as goal

pub returns-then-i-placings-clause-each : goal.returns-then-i-placings-clause-each
returns-then-i-placings-clause-each c =
    let kept = option_copied c.args.pending in
    let s = c.args.step.now in
    let part : moved s kept ≡ Some c.in-Some.part = sym c.moved.ensures ∙ c.in-Some.is in
    slot_one (λ p (now : Placing). next_placing p s kept now) c.args.placings.now c.in-Some.part c.index-placings-i.result
    c.next_placing.result c.if-i-placings.true
    (slice_get_read c.args.placings.now _ c.in-Some.part c.index-placings-i.result refl c.if-i-placings.true c.index-placings-i.is) c.next_placing.ensures
    (λ k z n. unmoved k s kept z (λ e. n (let q : Some k ≡ Some c.in-Some.part = sym e ∙ part in cc (q))))

pub returns-else-i-placings-clause-each : goal.returns-else-i-placings-clause-each
returns-else-i-placings-clause-each c =
    let kept = option_copied c.args.pending in
    let s = c.args.step.now in
    let part : moved s kept ≡ Some c.in-Some.part = sym c.moved.ensures ∙ c.in-Some.is in
    slots_none (λ p (now : Placing). next_placing p s kept now) c.args.placings.now
    (λ k z l. unmoved k s kept z (λ e.
    let q : Some k ≡ Some c.in-Some.part = sym e ∙ part in
    let r : k ≡ c.in-Some.part = cc (q) in
    omega (arith, r, l, c.if-i-placings.false)))
