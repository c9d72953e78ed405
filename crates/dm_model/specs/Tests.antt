-- Whether two values are the same.
use Rattle.std.specs.Cmp.Lexicographic.{pointwise}
use Rattle.std.specs.List.{list_any}
use Rattle.std.specs.Ordering.{int_eq}
use Rattle.std.specs.Prelude.{ℕ, Bool, true, false, ◌==◌, ◌&&◌, List, Option, Some, None}
use Rattle.dm_event.specs.declared.step.Cause.{Cause}
use Rattle.dm_event.specs.declared.step.Cause.TheVariants.{Undeclared, Log, Damage, Memory}
use Rattle.dm_event.specs.declared.step.Choice.{Choice}
use Rattle.dm_event.specs.declared.step.Choice.TheVariants.{Master, Best, Reader, Hand}
use Rattle.dm_event.specs.declared.step.Pair.{Pair}

-- the number is one of the list
abbrev pub is_among : List ℕ → ℕ → Bool
is_among xs x = list_any (λ y. y == x) xs

abbrev pub same_pair : Pair → Pair → Bool
same_pair a b = (a.key == b.key) && int_eq a.value b.value

abbrev pub same_pairs : List Pair → List Pair → Bool
same_pairs xs ys = pointwise same_pair xs ys

abbrev pub same_choice : Choice → Choice → Bool
same_choice Master Master = true
same_choice Best Best = true
same_choice Reader Reader = true
same_choice Hand Hand = true
same_choice a b = false

-- a byte of a log, None past its end
abbrev pub same_byte : Option ℕ → Option ℕ → Bool
same_byte None None = true
same_byte (Some a) (Some b) = a == b
same_byte a b = false

abbrev pub same_cause : Cause → Cause → Bool
same_cause (Undeclared key) (Undeclared key') = key == key'
same_cause (Log site) (Log site') = site == site'
same_cause (Damage site place read written) (Damage site' place' read' written') =
    (site == site') && ((place == place') && (same_byte read read' && same_byte written written'))
same_cause Memory Memory = true
same_cause a b = false
