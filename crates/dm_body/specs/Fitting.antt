-- The own write of one key, op by op.
use Rattle.std.specs.Prelude.{ℕ, ℤ, ◌==◌, if◌then◌else◌, Bool, false, Option, Some, None, unwrap_or}
use Rattle.std.specs.Int.{w64, int_wrapping_add}
use Rattle.std.specs.Ordering.{int_eq}
use Rattle.dm_event.specs.declared.step.Op.{Op}
use Rattle.dm_event.specs.declared.step.Op.TheVariants.{Read, Write, Add}

-- the own write of the key after one more op, where f gives the values that are not the transaction's own
abbrev pub own_after : (ℕ → ℤ) → Option ℤ → Op → ℕ → Option ℤ
own_after f own (Read q) key = own
own_after f own (Write q value) key = if q == key then Some value else own
own_after f own (Add q by) key = if q == key then Some (int_wrapping_add w64 (unwrap_or own (f key)) by) else own

-- there is this value
abbrev pub is_value : Option ℤ → ℤ → Bool
is_value None value = false
is_value (Some own) value = int_eq own value
