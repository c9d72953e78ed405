use Rattle.dm_model.specs.Bodies.{body}
use Rattle.dm_body.proofs.Folds.{body_rises, rises_ascend, rises_increase}
use Rattle.dm_body.proofs.law.writes_ascend.Goals as goal

pub returns-clause-increasing : goal.returns-clause-increasing
returns-clause-increasing c = λ ops f. rises_increase (body ops f).writes 0 (body_rises ops f)

pub returns-clause-ascending : goal.returns-clause-ascending
returns-clause-ascending c = λ ops f. rises_ascend (body ops f).writes 0 (body_rises ops f)
