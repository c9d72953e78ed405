use Rattle.std.proofs.Common.{◌+◌, ◌<◌, length, refl, arith}
use Rattle.std.proofs.lemmas.Option.{slice_get-get_or}
use Rattle.std.specs.Prelude.{Option}
use Rattle.dm_aims.specs.Aiming.{next_aim}
use Rattle.dm_aims.specs.declared.aim.Aim.{Aim}
use Rattle.dm_state.specs.Standings.{placing_in}
use Rattle.dm_steps.proofs.Slots.{slot_more, slots_done}
use Rattle.dm_aims.proofs.aims.advance.Goals as goal

pub loop-i-preserved : goal.loop-i-preserved
loop-i-preserved c =
    let inside : c.loop-i.i < length c.loop-i.aims = omega arith in
    slot_more (λ k (a : Option Aim). next_aim (k + 1) (placing_in c.args.states.now) c.args.step.now a) c.args.aims.now c.loop-i.aims c.loop-i.i (c.loop-i.i + 1) _ c.next_aim.result refl inside
    (slice_get-get_or c.loop-i.aims c.loop-i.i _ inside) c.next_aim.ensures c.loop-i.invariant

pub returns-clause-each : goal.returns-clause-each
returns-clause-each c =
    slots_done (λ k (a : Option Aim). next_aim (k + 1) (placing_in c.args.states.now) c.args.step.now a) c.args.aims.now c.loop-i.aims c.loop-i.i c.loop-i.auto.aims (omega arith) c.loop-i.invariant
