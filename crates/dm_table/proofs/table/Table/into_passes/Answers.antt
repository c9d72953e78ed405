use Rattle.std.proofs.Common.{rules, ◌≡◌, ◌++◌, ◌∷◌, [], length}
use Rattle.dm_table.proofs.Starting.{one_more}
use Rattle.dm_table.proofs.table.Table.into_passes.Goals as goal

pub loop-entry-preserved : goal.loop-entry-preserved
loop-entry-preserved g c =
    let n : c.into_inner-place.result.part ≡ length c.loop-entry.passes.items = search rules in
    let e : c.push.new.self.items ≡ c.loop-entry.passes.items ++ c.into_pass.result ∷ [] = search rules in
    one_more g.N.Named.table c.push.new.self.items c.loop-entry.passes.items c.into_pass.result c.into_inner-place.result.part c.loop-entry.invariant n
    c.into_pass.ensures.own e
