use Rattle.std.proofs.lemmas.Result.{err_from_is_err_and}
use Rattle.dm_kinds.proofs.Vectors.{numbers_stop}
use Rattle.dm_kinds.proofs.vector.closed_numbers.Goals as goal

pub returns-in_err-canonical : goal.returns-in_err-canonical
returns-in_err-canonical c =
    let error = err_from_is_err_and c.from_residual.result c.from_residual.ensures.1 in
    rw (error.1, error.2) (numbers_stop c.in_err-canonical.field-0.0 c.loop-next.numbers.items c.loop-next.word.now c.loop-next.next-index c.args.behind.now c.args.first _ c.loop-next-test.true c.in_err-canonical.ensures.exact c.loop-next.invariant)
