use Rattle.std.proofs.Common.{◌≡◌, ◌∙◌, sym, Ok}
use Rattle.dm_past.specs.Histories.{history_of}
use Rattle.dm_past.proofs.Printed.{printed}
use Rattle.dm_past.proofs.reading.read.Goals as goal
use Rattle.dm_past.proofs.reading.read.Goals.{In_default}

-- no line is left
all_read : (c : In_default) → history_of c.args.schema.now c.args.bytes.now ≡ Ok c.loop-steps.steps.items
all_read c = sym c.loop-steps.invariant.exact ∙ c.in_ok-step.ensures.none c.in_default.is c.loop-steps.steps.items

pub returns-clause-exact : goal.returns-clause-exact
returns-clause-exact c = all_read c

pub returns-clause-fit : goal.returns-clause-fit
returns-clause-fit c = (printed c.args.schema.now c.args.bytes.now c.loop-steps.steps.items (all_read c)).1
