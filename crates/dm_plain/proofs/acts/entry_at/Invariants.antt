use Rattle.std.proofs.Common.{◌≡◌, take}
use Rattle.std.specs.Prelude.{reverse, option_copied}
use Rattle.dm_model.specs.Acts.{entry_at}
use Rattle.dm_plain.proofs.acts.entry_at.Given as goal

abbrev pub invariant-loop-i : goal.invariant-loop-i
invariant-loop-i l = option_copied l.last ≡ entry_at l.origin l.seq (reverse (take l.i l.steps))
