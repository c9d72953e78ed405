use Rattle.std.proofs.Common.{◌+◌}
use Rattle.std.specs.Prelude.{option_copied}
use Rattle.dm_steps.proofs.Slots.{Upto}
use Rattle.dm_numbers.specs.Counted.{told_session}
use Rattle.dm_numbers.specs.declared.session.SessionNumbers.{SessionNumbers}
use Rattle.dm_numbers.proofs.session.advance.Given as goal

abbrev pub invariant-loop-i : goal.invariant-loop-i
invariant-loop-i l = Upto (λ k (a : SessionNumbers). told_session (k + 1) l.step (option_copied l.entry) a) l.initial.sessions l.sessions l.i
