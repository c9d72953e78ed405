use Rattle.std.proofs.Common.{arith, rules, ◌≡◌, ◌≤◌, length}
use Rattle.dm_table.proofs.Starting.{last_new, others_new, is_inside, is_there, opening}
use Rattle.dm_table.proofs.table.Table.new.Goals as goal

pub overflow_cast-part : goal.overflow_cast-part
overflow_cast-part g c =
    let r = last_new g.N.Named.table c.args.schema.now c.loop-pass.passes.items c.pop.new.self.items c.in-Some.pass c.len-part.result c.loop-pass.invariant
    c.in-Some.ensures.items (search rules) in
    let a = is_inside g.N.Named.table c.args.schema.now c.len-part.result c.in-Some.pass r.0 in
    let b : c.parts-parts.result ≡ length c.args.schema.now.masters = c.parts-parts.ensures.same in
    let d : c.parts-parts.result ≤ 256 = c.parts-parts.ensures.limits.1 in
    omega (arith, a, b, d)

pub opening_master-requires : goal.opening_master-requires
opening_master-requires g c =
    let r = last_new g.N.Named.table c.args.schema.now c.loop-pass.passes.items c.pop.new.self.items c.in-Some.pass c.len-part.result c.loop-pass.invariant
    c.in-Some.ensures.items (search rules) in
    is_inside g.N.Named.table c.args.schema.now c.len-part.result c.in-Some.pass r.0

pub new-requires-in-Some-clause-own : goal.new-requires-in-Some-clause-own
new-requires-in-Some-clause-own g c =
    let r = last_new g.N.Named.table c.args.schema.now c.loop-pass.passes.items c.pop.new.self.items c.in-Some.pass c.len-part.result c.loop-pass.invariant
    c.in-Some.ensures.items (search rules) in
    r.0.own

pub new-requires-in-Some-clause-there : goal.new-requires-in-Some-clause-there
new-requires-in-Some-clause-there g c =
    let r = last_new g.N.Named.table c.args.schema.now c.loop-pass.passes.items c.pop.new.self.items c.in-Some.pass c.len-part.result c.loop-pass.invariant
    c.in-Some.ensures.items (search rules) in
    is_there g.N.Named.table c.args.schema.now c.len-part.result c.in-Some.pass r.0

pub new-requires-in-Some-clause-master : goal.new-requires-in-Some-clause-master
new-requires-in-Some-clause-master g c =
    let r = last_new g.N.Named.table c.args.schema.now c.loop-pass.passes.items c.pop.new.self.items c.in-Some.pass c.len-part.result c.loop-pass.invariant
    c.in-Some.ensures.items (search rules) in
    opening g.N.Named.table c.args.schema.now c.len-part.result c.opening_master.result c.in-Some.pass r.0 c.opening_master.ensures

pub new-requires-in-Some-clause-empty : goal.new-requires-in-Some-clause-empty
new-requires-in-Some-clause-empty g c =
    let r = last_new g.N.Named.table c.args.schema.now c.loop-pass.passes.items c.pop.new.self.items c.in-Some.pass c.len-part.result c.loop-pass.invariant
    c.in-Some.ensures.items (search rules) in
    r.0.empty

pub loop-pass-preserved : goal.loop-pass-preserved
loop-pass-preserved g c =
    others_new g.N.Named.table c.args.schema.now c.loop-pass.passes.items c.pop.new.self.items c.in-Some.pass c.loop-pass.invariant c.in-Some.ensures.items
