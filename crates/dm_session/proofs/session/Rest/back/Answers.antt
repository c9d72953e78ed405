use Rattle.dm_session.specs.Sitting.{Sitting}
use Rattle.dm_session.proofs.Sessions.{back_in}
use Rattle.dm_session.proofs.session.Rest.back.Goals as goal

pub invariant_of-result : goal.invariant_of-result
invariant_of-result g c =
    let s : Sitting = record {
      id = c.self.inside.id;
      count = c.self.inside.count;
      tries = c.self.inside.tries;
      to = c.self.inside.to;
      by =
          c.self.inside.by;
      vector = c.self.inside.vector;
      pass = c.self.inside.was.value;
    } in
    back_in g.N.Named.table s c.args.self c.args.pass c.self.invariant c.self.view_is c.requires.went c.requires.between
