use Rattle.dm_state.proofs.Opening.{opening}
use Rattle.dm_state.proofs.states.States.new.Goals as goal

pub returns : goal.returns
returns c = opening c.args.schema.now _ c.in_ok-opening.ensures c.in_ok-opening-2.ensures c.in_ok-opening-3.ensures
