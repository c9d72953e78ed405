use Rattle.dm_frames.proofs.Telling.{same_records}
use Rattle.dm_frames.proofs.law.records_of_frames.Goals as goal

pub returns : goal.returns
returns c = λ recs others h k e. same_records recs others h k e
