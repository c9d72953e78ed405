use Rattle.dm_past.proofs.Pieces.{line_none, line_some}
use Rattle.dm_past.proofs.cutting.first_line.Goals as goal

pub returns-in-None-clause-first : goal.returns-in-None-clause-first
returns-in-None-clause-first c = line_none c.args.text.now c.requires c.in-None.ensures.whole

pub returns-in-Some-clause-first : goal.returns-in-Some-clause-first
returns-in-Some-clause-first c = line_some c.args.text.now c.in-Some.line.now c.in-Some.after.now c.in-Some.ensures.first
