use Rattle.std.proofs.Common.{refl, sym, ap, ◌∙◌}
use Rattle.dm_invariant.proofs.Passing.{went_twice}
use Rattle.dm_onsite.proofs.Plays.{began_here, seat_runs}
use Rattle.dm_onsite.specs.Seats.{Seat}
use Rattle.dm_onsite.proofs.player.Player.begin.Goals as goal

pub invariant_of-self-in-Ok-Begun : goal.invariant_of-self-in-Ok-Begun
invariant_of-self-in-Ok-Begun g c =
    let i = c.self.inside in
    let b = c.begin in
    let arm = c.in-Ok-Begun in
    let here = began_here c.args.site.now.number b.new.self.pass c.in-Some-next.txn _ _ c.route.new.own b.new.own arm.field-0 arm.run' arm.field-0-is
    arm.ensures.ok c.requires.site in
    seat_runs g.N.Named.table _ c.self.invariant b.new.own (went_twice i.pass c.route.new.own b.new.own c.route.ensures.went b.ensures.own) arm.run'
    i.routed (ap (λ (s : Seat). s.routed) c.self.view_is ∙ (c.in-Some-next.ensures.none refl).1)
    (here.0 ∙ (c.in-Some-next.ensures.session ∙ sym (ap (λ (s : Seat). s.session) c.self.view_is))) here.1
