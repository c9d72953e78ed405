use Rattle.dm_aims.proofs.Opening.{unaimed}
use Rattle.dm_aims.proofs.aims.Aims.new.Goals as goal

pub returns : goal.returns
returns c = unaimed _ c.in_ok-none.ensures
