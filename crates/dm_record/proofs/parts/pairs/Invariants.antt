use Rattle.std.proofs.Common.{◌≡◌, ◌+◌, ◌-◌, ◌*◌, ◌≤◌, List, [], length}
use Rattle.dm_event.specs.declared.step.Pair.{Pair}
use Rattle.dm_record.specs.Form.{Form, walk}
use Rattle.dm_record.specs.Grammar.{pairs_form}
use Rattle.dm_record.proofs.parts.pairs.Given as goal

abbrev pub invariant-loop-i : goal.invariant-loop-i
invariant-loop-i l = (l.i ≤ l.fn.count) × (l.least + (l.fn.count - l.i) ≤ 16777216) × (l.fn.at + 12 * l.i ≤ length l.fn.bytes)
    × ((next : List Pair → Form) → walk (pairs_form l.fn.count 0 [] next) l.fn.bytes l.fn.at
    ≡ walk (pairs_form (l.fn.count - l.i) l.least l.list.items next) l.fn.bytes (l.fn.at + 12 * l.i))

abbrev pub decreases-loop-i : goal.decreases-loop-i
decreases-loop-i l = l.count - l.i
