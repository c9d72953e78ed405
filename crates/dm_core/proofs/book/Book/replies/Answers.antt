use Rattle.std.proofs.Common.{◌≡◌, ap, arith, length}
use Rattle.std.proofs.lemmas.List.{length-reverse}
use Rattle.dm_core.proofs.Few.{few_replies as few_of}
use Rattle.dm_core.specs.Ledger.{Ledger, past}
use Rattle.dm_core.proofs.book.Book.replies.Goals as goal

pub returns-clause-few : goal.returns-clause-few
returns-clause-few c =
    let kept = c.self.inside.kept in
    let few = few_of c.args.session (past kept) in
    let long : length (past kept) ≡ length kept.steps = length-reverse kept.steps in
    let same : length kept.steps ≡ length c.args.self.now.steps = ap (λ (b : Ledger). length b.steps) c.self.view_is in
    omega (arith, few, long, same, c.replies.ensures.exact)
