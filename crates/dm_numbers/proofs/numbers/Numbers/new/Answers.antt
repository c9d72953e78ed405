use Rattle.dm_numbers.proofs.Opening.{opening}
use Rattle.dm_numbers.proofs.numbers.Numbers.new.Goals as goal

pub returns : goal.returns
returns c = opening c.args.schema.now _ c.in_ok-opening.ensures.blank c.in_ok-opening-2.ensures.blank

pub invariant_of-result : goal.invariant_of-result
invariant_of-result c = record { some = c.in_ok-opening.ensures.some; sites = c.in_ok-opening.ensures.few; sessions = c.in_ok-opening-2.ensures.all }
