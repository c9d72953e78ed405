use Rattle.std.proofs.Common.{◌≡◌, ℕ, ◌+◌, ◌-◌, ◌*◌, ◌≤◌, List, [], length, take}
use Rattle.dm_record.specs.Form.{Form, walk}
use Rattle.dm_record.specs.Grammar.{components_form}
use Rattle.dm_record.proofs.parts.vector.Given as goal

abbrev pub invariant-loop-i : goal.invariant-loop-i
invariant-loop-i l = (l.i ≤ l.fn.sites) × (length l.vector ≡ l.fn.sites) × (l.fn.at + 8 * l.i ≤ length l.fn.bytes)
    × ((next : List ℕ → Form) → walk (components_form l.fn.sites [] next) l.fn.bytes l.fn.at
    ≡ walk (components_form (l.fn.sites - l.i) (take l.i l.vector) next) l.fn.bytes (l.fn.at + 8 * l.i))

abbrev pub decreases-loop-i : goal.decreases-loop-i
decreases-loop-i l = l.sites - l.i
