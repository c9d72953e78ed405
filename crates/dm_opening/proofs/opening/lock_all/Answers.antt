use Rattle.std.proofs.Common.{arith}
use Rattle.dm_opening.proofs.Building.{numbered_last}
use Rattle.dm_opening.proofs.opening.lock_all.Goals as goal

pub invariant_of-new : goal.invariant_of-new
invariant_of-new g c =
    let n = (numbered_last 1 c.loop-site.sites.items c.pop.new.self.items c.in-Some.site c.in-Some.ensures.items c.loop-site.invariant.2).1 in
    let l = c.len.ensures in let k = c.pop.new.self.ok.0 in
    record { same = omega (arith, n, l, k) }

pub loop-site-preserved : goal.loop-site-preserved
loop-site-preserved g c =
    let was = c.loop-site.invariant in let a = was.0 in let b = was.1 in let p = c.push_reserved.ensures in
    let n = numbered_last 1 c.loop-site.sites.items c.pop.new.self.items c.in-Some.site c.in-Some.ensures.items was.2 in
    let x = p.len in let y = p.capacity in let z = c.in-Some.ensures.len in
    (omega (arith, a, x, z), omega (arith, b, y), n.0)
