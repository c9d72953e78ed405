use Rattle.std.proofs.Common.{◌∙◌, arith}
use Rattle.dm_schema.proofs.Limits.{at_most, number_inside, keys_few, keeps_limits}
use Rattle.dm_schema.proofs.reading.schema_in.Goals as goal

pub overflow_cast-sites : goal.overflow_cast-sites
overflow_cast-sites c =
    let inside = number_inside _ c.from.result c.in_ok-count.count _ c.in_ok-count.ensures in
    omega (arith, at_most 1 c.from.result c.in_ok-count.count inside)

pub overflow_mul-keys : goal.overflow_mul-keys
overflow_mul-keys c =
    let masters = c.in_ok-masters.masters in
    let few = keys_few _ _ c.in_ok-width.width masters.items c.len.result c.from-2.result c.in_ok-width.ensures c.in_ok-masters.ensures
    (c.len.ensures ∙ masters.ok.0) c.from-2.ensures in
    omega (arith, few)

pub values_of-requires : goal.values_of-requires
values_of-requires c =
    let masters = c.in_ok-masters.masters in
    keys_few _ _ c.in_ok-width.width masters.items c.len.result c.from-2.result c.in_ok-width.ensures c.in_ok-masters.ensures
    (c.len.ensures ∙ masters.ok.0) c.from-2.ensures

pub schema_with-requires : goal.schema_with-requires
schema_with-requires c =
    let masters = c.in_ok-masters.masters in
    keeps_limits _ c.from.result c.in_ok-count.count c.in_ok-width.width masters.items c.in_ok-weights.weights c.len.result c.from-2.result
    c.in_ok-values.values.items c.from.ensures (c.len.ensures ∙ masters.ok.0) c.from-2.ensures c.in_ok-count.ensures c.in_ok-width.ensures
    c.in_ok-masters.ensures c.in_ok-weights.ensures c.in_ok-values.ensures
