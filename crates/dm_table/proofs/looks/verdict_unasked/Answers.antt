use Rattle.std.proofs.Common.{rules}
use Rattle.std.specs.Prelude.{IsNone}
use Rattle.dm_table.specs.Verdicts.{Masters}
use Rattle.dm_table.proofs.looks.verdict_unasked.Goals as goal

pub returns-in-None : goal.returns-in-None
returns-in-None c some =
    let n : IsNone c.other_master.result = search rules in
    let m : Masters c.in-Some.one c.args.seen.now = search rules in
    (c.requires, m, c.other_master.ensures.none n)
