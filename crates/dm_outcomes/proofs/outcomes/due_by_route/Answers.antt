use Rattle.std.proofs.Common.{sym}
use Rattle.dm_steps.proofs.Legality.{wanted_fits}
use Rattle.dm_outcomes.proofs.outcomes.due_by_route.Goals as goal

pub due_of-requires-clause-shaped : goal.due_of-requires-clause-shaped
due_of-requires-clause-shaped g c =
    wanted_fits (g.T.Told.layout c.args.told.now) c.args.session (g.T.Told.past c.args.told.now) c.is_legal.ensures.legal c.in-Some-Some.want.now
    (sym c.in-Some-Some.ensures')
