use Rattle.std.proofs.Common.{sym, ◌∙◌, arith}
use Rattle.dm_clauses.proofs.Ascending.{ascends_on, ascends_not, ascends_last}
use Rattle.dm_clauses.proofs.shape.ascend.Goals as goal

pub returns-then-keys-i : goal.returns-then-keys-i
returns-then-keys-i c = sym (sym c.loop-i.invariant ∙ ascends_not c.args.keys.now c.loop-i.i (omega arith) (omega arith))

pub loop-i-preserved : goal.loop-i-preserved
loop-i-preserved c = ascends_on c.args.keys.now c.loop-i.i (omega arith) (omega arith) ∙ c.loop-i.invariant

pub returns : goal.returns
returns c = sym (ascends_last c.args.keys.now c.loop-i.i (omega arith)) ∙ c.loop-i.invariant
