use Rattle.dm_record.proofs.KindLeft.{kind_grant}
use Rattle.dm_record.proofs.parts.of_kind.Goals as goal

pub grant-requires-clause-n : goal.grant-requires-clause-n
grant-requires-clause-n c = kind_grant c.args.n c.args.kind c.requires.kind c.if-kind-eq1.false c.if-kind-eq2.false
