use Rattle.std.proofs.Common.{refl}
use Rattle.dm_site.proofs.Bodies.{dropped_at, met_alike, op_told, run_goes, site_met}
use Rattle.dm_site.proofs.site.Site.body_op.Goals as goal

pub invariant_of-self : goal.invariant_of-self
invariant_of-self g c =
    let m = c.meet in
    let b = met_alike _ m.new.one _ m.new.two m.ensures.one m.ensures.fixed m.ensures.lawful m.ensures.two m.ensures.same in
    site_met {D = g.row.D.Denot} _ _ _ c.self.view_is c.self.invariant b.0 b.1 m.new.two b.2

pub returns-then-not-holds-clause-done : goal.returns-then-not-holds-clause-done
returns-then-not-holds-clause-done g c =
    let m = c.meet in
    let b = met_alike _ m.new.one _ m.new.two m.ensures.one m.ensures.fixed m.ensures.lawful m.ensures.two m.ensures.same in (
      refl,
      dropped_at {D = g.row.D.Denot} _ _ _ c.self.view_is c.self.invariant b.0 b.1 m.new.one _ _ _ refl c.run.view_is c.requires.own.1 c.requires.here
          c.holds.ensures
          c.if-not-holds.true,
    )

pub invariant_of-self-2 : goal.invariant_of-self-2
invariant_of-self-2 g c =
    let m = c.meet in
    let b = met_alike _ m.new.one _ m.new.two m.ensures.one m.ensures.fixed m.ensures.lawful m.ensures.two m.ensures.same in
    site_met {D = g.row.D.Denot} _ _ _ c.self.view_is c.self.invariant b.0 b.1 m.new.two b.2

pub invariant_of-run : goal.invariant_of-run
invariant_of-run g c =
    let m = c.meet in
    let b = met_alike _ m.new.one _ m.new.two m.ensures.one m.ensures.fixed m.ensures.lawful m.ensures.two m.ensures.same in
    run_goes {D = g.row.D.Denot} _ _ _ c.self.view_is c.self.invariant b.0 b.1 c.run.view_is c.requires.here c.run.invariant _ c.holds.ensures
    c.if-not-holds.false _ c.args.op.now c.op_at.ensures.turn c.requires.few c.requires.fits c.requires.declared

pub returns-clause-done : goal.returns-clause-done
returns-clause-done g c =
    let m = c.meet in
    let b = met_alike _ m.new.one _ m.new.two m.ensures.one m.ensures.fixed m.ensures.lawful m.ensures.two m.ensures.same in
    op_told {D = g.row.D.Denot} _ _ _ c.self.view_is c.self.invariant b.0 b.1 c.run.view_is c.requires.here c.run.invariant _ c.holds.ensures
    c.if-not-holds.false m.new.one refl c.requires.own.1 _ c.args.op.now c.op_at.ensures.turn c.op_at.result _ c.told.ensures c.op_at.ensures.full
    c.op_at.ensures.answer
