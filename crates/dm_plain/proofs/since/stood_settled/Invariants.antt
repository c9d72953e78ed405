use Rattle.std.proofs.Common.{◌≡◌, take}
use Rattle.std.specs.Prelude.{reverse}
use Rattle.dm_model.specs.Outcomes.{settled_epochs}
use Rattle.dm_model.specs.Tests.{is_among}
use Rattle.dm_plain.proofs.since.stood_settled.Given as goal

abbrev pub invariant-loop-i : goal.invariant-loop-i
invariant-loop-i l = l.found ≡ is_among (settled_epochs l.schema (reverse (take l.i l.steps)) l.session l.part l.site) l.epoch
