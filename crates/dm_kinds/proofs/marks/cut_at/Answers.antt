use Rattle.std.proofs.Common.{sym}
use Rattle.std.specs.Prelude.{◌==◌}
use Rattle.std.proofs.lemmas.List.{take_rest}
use Rattle.dm_text.proofs.Cuts.{split_at, split_none}
use Rattle.dm_kinds.proofs.marks.cut_at.Goals as goal

pub returns-in-None-clause-whole : goal.returns-in-None-clause-whole
returns-in-None-clause-whole c = split_none (λ b. b == c.args.mark) c.args.text.now (sym c.in-None.ensures)

pub returns-in-Some-clause-first : goal.returns-in-Some-clause-first
returns-in-Some-clause-first c = rw take_rest ((split_at (λ b. b == c.args.mark) c.args.text.now c.in-Some.end (sym c.in-Some.ensures)).1)
