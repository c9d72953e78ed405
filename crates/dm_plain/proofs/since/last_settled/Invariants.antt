use Rattle.std.proofs.Common.{◌≡◌, take}
use Rattle.std.specs.Prelude.{reverse, slice_get}
use Rattle.dm_model.specs.Outcomes.{settled_epochs}
use Rattle.dm_plain.proofs.since.last_settled.Given as goal

abbrev pub invariant-loop-i : goal.invariant-loop-i
invariant-loop-i l = l.last ≡ slice_get (settled_epochs l.schema (reverse (take l.i l.steps)) l.session l.part l.site) 0
