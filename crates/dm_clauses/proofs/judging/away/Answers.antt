use Rattle.std.proofs.Common.{◌<◌, length, subst}
use Rattle.dm_event.specs.Layout.{Layout}
use Rattle.dm_clauses.proofs.judging.away.Goals as goal

pub placing-requires : goal.placing-requires
placing-requires g c = subst (λ (l : Layout). c.in-Some.part < length l.masters) c.schema.ensures c.in-Some.ensures.inside
