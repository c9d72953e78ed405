use Rattle.std.proofs.Common.{rules, ◌≡◌, ◌∷◌}
use Rattle.dm_table.proofs.Looking.{least_of}
use Rattle.dm_table.proofs.looks.+least_asked.Goals as goal

pub returns : goal.returns
returns t c =
    let e : c.args.seen.now ≡ c.in_ok-first.first.now ∷ c.in_ok-first.rest.now = search rules in
    least_of c.args.seen.now c.in_ok-first.first.now c.in_ok-first.rest.now c.least_asked.result c.least_with.result e c.least_asked.ensures
    c.least_with.ensures
