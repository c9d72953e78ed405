use Rattle.std.proofs.Common.{◌+◌, ◌<◌, length, refl, arith}
use Rattle.std.proofs.lemmas.Option.{slice_get-get_or}
use Rattle.dm_event.specs.declared.attempt.Attempt.{Attempt}
use Rattle.dm_steps.proofs.Slots.{slot_more, slots_done}
use Rattle.dm_steps.specs.Next.{next_attempt}
use Rattle.dm_state.proofs.attempts.advance.Goals as goal

pub loop-i-preserved : goal.loop-i-preserved
loop-i-preserved c =
    let inside : c.loop-i.i < length c.loop-i.attempts = omega arith in
    slot_more (λ k (a : Attempt). next_attempt (k + 1) c.args.step.now a) c.args.attempts.now c.loop-i.attempts c.loop-i.i (c.loop-i.i + 1)
    _ c.next_attempt.result refl inside
    (slice_get-get_or c.loop-i.attempts c.loop-i.i _ inside) c.next_attempt.ensures c.loop-i.invariant

pub returns-clause-each : goal.returns-clause-each
returns-clause-each c =
    slots_done (λ k (a : Attempt). next_attempt (k + 1) c.args.step.now a) c.args.attempts.now c.loop-i.attempts c.loop-i.i
    c.loop-i.auto.attempts (omega arith) c.loop-i.invariant
