use Rattle.std.proofs.Common.{ap, arith}
use Rattle.dm_clauses.specs.Judging.{epoch_now}
use Rattle.dm_clauses.proofs.Epochs.{few_epochs}
use Rattle.dm_clauses.proofs.handing.placing_in.Goals as goal

pub returns-clause-few : goal.returns-clause-few
returns-clause-few g c =
    let few = few_epochs (g.T.Told.layout c.args.told.now) (g.T.Told.past c.args.told.now) c.is_legal.ensures.legal c.args.part in
    let same = ap epoch_now c.placing.ensures in
    omega (arith, few, same, c.is_legal.ensures.few)
