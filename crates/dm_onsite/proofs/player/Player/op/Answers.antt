use Rattle.std.proofs.Common.{◌≡◌, None, ◌∙◌}
use Rattle.dm_onsite.proofs.Plays.{of_some, op_here, seat_runs}
use Rattle.dm_onsite.proofs.player.Player.op.Goals as goal

pub invariant_of-self-2 : goal.invariant_of-self-2
invariant_of-self-2 g c =
    let i = c.self.inside in
    let b = c.body_op-answer in
    let runs = of_some (λ r. r.run) _ i.running c.take.result c.in-Some.running c.take.ensures.value c.in-Some.is c.self.invariant.runs in
    let alone : i.routed ≡ None = of_some (λ r. r.run) _ i.running c.take.result c.in-Some.running c.take.ensures.value c.in-Some.is c.self.invariant.alone in
    let here = op_here c.in-Some.running.run b.new.run c.args.op.now i.pass b.new.own b.result runs.1 b.ensures.own b.ensures.done in
    seat_runs g.N.Named.table _ c.self.invariant b.new.own b.ensures.own b.new.run i.routed alone (here.0 ∙ runs.0) here.1
