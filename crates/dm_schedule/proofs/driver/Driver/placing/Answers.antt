use Rattle.std.proofs.Common.{ap, arith, length}
use Rattle.std.proofs.lemmas.List.{length-reverse}
use Rattle.std.specs.Prelude.{reverse}
use Rattle.dm_clauses.specs.Judging.{epoch_now}
use Rattle.dm_clauses.proofs.Epochs.{few_epochs}
use Rattle.dm_schedule.specs.Drive.{Drive}
use Rattle.dm_schedule.proofs.driver.Driver.placing.Goals as goal

pub returns-clause-few : goal.returns-clause-few
returns-clause-few c =
    let few = few_epochs c.self.inside.book.layout (reverse c.self.inside.book.steps) c.self.invariant.legal c.args.part in
    let same = ap epoch_now c.placing.ensures in
    let view = ap (λ (d : Drive). length d.history) c.self.view_is in
    omega (arith, few, same, view, length-reverse c.self.inside.book.steps)
