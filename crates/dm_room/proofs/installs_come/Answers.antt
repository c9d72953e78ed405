use Rattle.dm_room.proofs.Installing.{installs_next}
use Rattle.dm_room.proofs.installs_come.Goals as goal

pub returns : goal.returns
returns c = λ layout past step site h. installs_next layout past h.0 site step h.1
