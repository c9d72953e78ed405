use Rattle.dm_invariant.proofs.Turned.{others_keep}
use Rattle.dm_invariant.proofs.others_keep_it.Goals as goal

pub returns : goal.returns
returns c = λ layout opened site old new parts legal adds keeps. others_keep layout opened site old new parts legal adds keeps
