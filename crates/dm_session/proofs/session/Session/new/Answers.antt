use Rattle.dm_event.specs.declared.step.Choice.TheVariants.{Hand}
use Rattle.dm_session.proofs.Sessions.{new_is, zeros_are}
use Rattle.dm_session.proofs.session.Session.new.Goals as goal

pub invariant_of-result : goal.invariant_of-result
invariant_of-result g c = new_is g.N.Named.table c.args.id c.args.sites 0 Hand c.args.pass c.requires.pass.0 c.requires.pass.1 c.requires.id.0
    c.requires.id.1 c.requires.empty c.requires.sites.2 c.zeros.result c.zeros.ensures (zeros_are c.args.sites c.args.id)
