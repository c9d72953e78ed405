use Rattle.std.proofs.Common.{rules, ◌≡◌, true}
use Rattle.dm_kinds.specs.Ranges.{fit_keys, ascends}
use Rattle.dm_kinds.proofs.Keys.{ascending_same, declared_same}
use Rattle.dm_kinds.proofs.range.declared_of.Goals as goal

pub returns : goal.returns
returns c =
    let fit : fit_keys c.args.schema.now c.args.keys.items ≡ true = search rules in
    let up : ascends c.args.keys.items ≡ true = search rules in
    rw (c.ok_or.ensures.value, c.new.ensures.exact, ascending_same c.args.keys.items up) (declared_same c.args.schema.now c.args.keys.items fit up)
