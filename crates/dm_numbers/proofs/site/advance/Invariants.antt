use Rattle.std.proofs.Common.{◌+◌}
use Rattle.std.specs.Prelude.{option_copied}
use Rattle.dm_steps.proofs.Slots.{Upto}
use Rattle.dm_numbers.specs.Counted.{told_site}
use Rattle.dm_numbers.specs.declared.site.SiteNumbers.{SiteNumbers}
use Rattle.dm_numbers.proofs.site.advance.Given as goal

abbrev pub invariant-loop-i : goal.invariant-loop-i
invariant-loop-i l = Upto (λ k (a : SiteNumbers). told_site (k + 1) l.step (option_copied l.pending) a) l.initial.sites l.sites l.i
