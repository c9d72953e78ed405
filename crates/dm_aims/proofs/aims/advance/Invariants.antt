use Rattle.std.proofs.Common.{◌+◌}
use Rattle.std.specs.Prelude.{Option}
use Rattle.dm_aims.specs.Aiming.{next_aim}
use Rattle.dm_aims.specs.declared.aim.Aim.{Aim}
use Rattle.dm_state.specs.Standings.{placing_in}
use Rattle.dm_steps.proofs.Slots.{Upto}
use Rattle.dm_aims.proofs.aims.advance.Given as goal

abbrev pub invariant-loop-i : goal.invariant-loop-i
invariant-loop-i l = Upto (λ k (a : Option Aim). next_aim (k + 1) (placing_in l.states) l.step a) l.initial.aims l.aims l.i
