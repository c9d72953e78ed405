use Rattle.std.proofs.Common.{rules, ◌≡◌, ◌∷◌}
use Rattle.dm_table.proofs.Looking.{none_other}
use Rattle.dm_table.proofs.looks.+other_master.Goals as goal

pub returns-then-first-site-clause-none : goal.returns-then-first-site-clause-none
returns-then-first-site-clause-none t c none =
    let e : c.args.seen.now ≡ c.in_ok-first.first.now ∷ c.in_ok-first.rest.now = search rules in
    let s : c.in_ok-first.first.now.site ≡ c.args.site = search rules in
    none_other c.args.site c.args.seen.now c.in_ok-first.first.now c.in_ok-first.rest.now e s (c.other_master.ensures.none none)
