use Rattle.std.proofs.Common.{arith}
use Rattle.dm_opening.proofs.Sitting.{id_in, opened_more}
use Rattle.dm_opening.proofs.sessions.open_all.Goals as goal

pub new-requires-clause-id : goal.new-requires-clause-id
new-requires-clause-id g c =
    let l = c.loop-pass in let fixed = c.args.chron.now.fixed in
    let r = id_in c.args.chron.now.table fixed c.args.ids.items l.ids.items c.pop-in-Some.new.self.items fixed.items c.in-Some-pop.id l.passes.items
    l.sessions.items l.invariant c.in-Some-pop.ensures.items c.requires.ids in
    let most = r.1 in let count = c.requires.count in
    (r.0, omega (arith, most, count))

pub loop-pass-preserved : goal.loop-pass-preserved
loop-pass-preserved g c =
    let l = c.loop-pass in
    opened_more c.args.chron.now.table c.args.chron.now.fixed c.args.ids.items l.ids.items c.pop-in-Some.new.self.items c.in-Some-pop.id l.passes.items
    c.pop.new.self.items c.in-Some.pass l.sessions.items c.push.new.self.items c.new.result l.invariant c.in-Some-pop.ensures.items
    c.in-Some.ensures.items c.in_ok-push.ensures.items c.new.ensures.id c.new.ensures.none c.new.ensures.pass
