use Rattle.std.proofs.Common.{sym}
use Rattle.std.proofs.lemmas.List.{take_rest}
use Rattle.dm_text.proofs.Cuts.{line_at, line_last}
use Rattle.dm_text.proofs.cutting.first_line.Goals as goal

pub returns-in-None-clause-first : goal.returns-in-None-clause-first
returns-in-None-clause-first c = line_last c.args.text.now c.requires (sym c.in-None.ensures)

pub returns-in-Some-clause-first : goal.returns-in-Some-clause-first
returns-in-Some-clause-first c = rw (take_rest, c.without_return.ensures) (line_at c.args.text.now c.in-Some.end (sym c.in-Some.ensures))
