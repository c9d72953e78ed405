use Rattle.std.specs.Prelude.{reverse}
use Rattle.dm_frames.proofs.Ranges.{pending_legal, records_legal}
use Rattle.dm_frames.proofs.law.records_of_histories.Goals as goal

pub returns-clause-acts : goal.returns-clause-acts
returns-clause-acts c = λ layout history fits legal site. records_legal layout fits (reverse history) legal site

pub returns-clause-pending : goal.returns-clause-pending
returns-clause-pending c = λ layout history fits legal site. pending_legal layout fits (reverse history) legal site
