use Rattle.std.proofs.Common.{◌+◌, ◌<◌, length, refl, arith}
use Rattle.std.specs.Prelude.{option_copied}
use Rattle.std.proofs.lemmas.Option.{slice_get_read}
use Rattle.dm_steps.proofs.Slots.{slot_more, slots_done}
use Rattle.dm_numbers.specs.Counted.{told_session}
use Rattle.dm_numbers.specs.declared.session.SessionNumbers.{SessionNumbers}
use Rattle.dm_numbers.proofs.session.advance.Goals as goal

pub loop-i-preserved : goal.loop-i-preserved
loop-i-preserved c =
    let inside : c.loop-i.i < length c.loop-i.sessions = omega arith in
    slot_more (λ k (a : SessionNumbers). told_session (k + 1) c.args.step.now (option_copied c.args.entry) a) c.args.sessions.now c.loop-i.sessions
    c.loop-i.i (c.loop-i.i + 1) _ c.next_session.result refl inside
    (slice_get_read c.loop-i.sessions _ c.loop-i.i c.index-sessions-i.result refl inside c.index-sessions-i.is) c.next_session.ensures c.loop-i.invariant

pub returns-clause-each : goal.returns-clause-each
returns-clause-each c =
    slots_done (λ k (a : SessionNumbers). told_session (k + 1) c.args.step.now (option_copied c.args.entry) a) c.args.sessions.now c.loop-i.sessions
    c.loop-i.i c.loop-i.auto.sessions (omega arith) c.loop-i.invariant
