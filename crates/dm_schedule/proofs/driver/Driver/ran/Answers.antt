use Rattle.std.proofs.Common.{◌≤◌, ap, arith, length}
use Rattle.dm_model.specs.Bodies.{Ran}
use Rattle.dm_schedule.proofs.DriversKept.{ran_told, if_ran}
use Rattle.dm_schedule.proofs.driver.Driver.ran.Goals as goal

pub returns-clause-reads : goal.returns-clause-reads
returns-clause-reads c =
    let few : c.args.session ≤ length c.self.inside.overlays.items = omega (arith, c.requires.session.1, c.self.inside.overlays.ok.0, c.self.invariant.sessions)
    in
    let ran = ran_told c.self.inside.book c.self.inside.overlays.items c.args.session c.index.result.now c.args.self.now c.self.view_is c.requires.session.0 few
    c.index.ensures
    c.args.run.now c.self.invariant.legal c.self.invariant.bodies c.requires.running in
    if_ran c.to_ran.result (λ r. r.reads) _ _ c.to_ran.ensures (ap (λ (r : Ran). r.reads) ran)

pub returns-clause-writes : goal.returns-clause-writes
returns-clause-writes c =
    let few : c.args.session ≤ length c.self.inside.overlays.items = omega (arith, c.requires.session.1, c.self.inside.overlays.ok.0, c.self.invariant.sessions)
    in
    let ran = ran_told c.self.inside.book c.self.inside.overlays.items c.args.session c.index.result.now c.args.self.now c.self.view_is c.requires.session.0 few
    c.index.ensures
    c.args.run.now c.self.invariant.legal c.self.invariant.bodies c.requires.running in
    if_ran c.to_ran.result (λ r. r.writes) _ _ c.to_ran.ensures (ap (λ (r : Ran). r.writes) ran)
