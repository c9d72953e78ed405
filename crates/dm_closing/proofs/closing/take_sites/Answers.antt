use Rattle.std.proofs.Common.{rules, ◌∙◌, ◌≡◌, ◌+◌, length, vec_len}
use Rattle.dm_closing.proofs.Joins.{site_joined}
use Rattle.dm_closing.proofs.closing.take_sites.Goals as goal

pub loop-next-preserved : goal.loop-next-preserved
loop-next-preserved g c =
    let was = c.loop-next.invariant in let e = c.join-bundle.ensures in let a = c.apart-pass-in-Some-pop in
    let s = site_joined g.D.LogDisk.story g.D.LogDisk.faults g.N.Named.table g.N.Named.faults c.loop-next.bundle.pass c.join-bundle.result.pass
    a.result.0 c.loop-next.number c.one_more-number.result c.loop-next.disks.items c.push-in-Some-pop.new.disks.items a.result.1
    was.3 e.grew a.ensures.leaves e.came c.one_more-number.ensures was.2 c.push-in-Some-pop.ensures in
    let n : length c.push-in-Some-pop.new.disks.items + vec_len c.pop-in-loop-next.new.self ≡ vec_len c.args.locks = search rules in
    (e.grew.table ∙ was.0, e.rest ∙ was.1, s.0, s.1, n)
