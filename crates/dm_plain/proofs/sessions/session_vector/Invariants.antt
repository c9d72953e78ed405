use Rattle.std.proofs.Common.{◌≡◌, take}
use Rattle.std.specs.Prelude.{reverse}
use Rattle.dm_event.specs.Vectors.{join_all}
use Rattle.dm_model.specs.Sessions.{answered}
use Rattle.dm_plain.proofs.sessions.session_vector.Given as goal

abbrev pub invariant-loop-i : goal.invariant-loop-i
invariant-loop-i l = l.seen ≡ join_all l.schema.sites (answered l.session (reverse (take l.i l.steps)))
