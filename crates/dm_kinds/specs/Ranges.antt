-- The ranges of what stands in a line, whatever its types allow.
use Rattle.std.specs.Prelude.{ℕ, List, [], ◌∷◌, length, Bool, true, nat_le, nat_lt, ◌&&◌}
use Rattle.std.specs.List.{list_all}
use Rattle.dm_event.specs.Layout.{Layout, is_site, is_part, is_key}
use Rattle.dm_event.specs.declared.limits.TheConstants.{MAX_KEYS, MAX_OPS}
use Rattle.dm_event.specs.declared.step.Op.{Op}
use Rattle.dm_event.specs.declared.step.Op.TheVariants as ops
use Rattle.dm_event.specs.declared.step.Pair.{Pair}
use Rattle.dm_event.specs.declared.step.Cause.{Cause}
use Rattle.dm_event.specs.declared.step.Cause.TheVariants.{Undeclared, Log, Damage, Memory}
use Rattle.dm_event.specs.declared.step.Said.{Said}
use Rattle.dm_event.specs.declared.step.Said.TheVariants as saids

abbrev pub op_key : Op → ℕ
op_key (ops.Read key) = key
op_key (ops.Write key value) = key
op_key (ops.Add key by) = key

-- at most 64 ops, of keys that exist
unfoldable pub fit_ops : Layout → List Op → Bool
fit_ops layout list = nat_le (length list) MAX_OPS && list_all (λ op. is_key layout (op_key op)) list

unfoldable pub fit_pairs : Layout → List Pair → Bool
fit_pairs layout list = list_all (λ pair. is_key layout pair.key) list

-- at most 32 keys, which exist
unfoldable pub fit_keys : Layout → List ℕ → Bool
fit_keys layout keys = nat_le (length keys) MAX_KEYS && list_all (is_key layout) keys

-- each key is above the one before, the first of them above `last`
unfoldable pub rises : ℕ → List ℕ → Bool
rises last [] = true
rises last (key ∷ keys) = nat_lt last key && rises key keys

-- each key is above the one before
unfoldable pub ascends : List ℕ → Bool
ascends [] = true
ascends (key ∷ keys) = rises key keys

unfoldable pub fits_cause : Layout → Cause → Bool
fits_cause layout (Undeclared key) = is_key layout key
fits_cause layout (Log site) = is_site layout site
fits_cause layout (Damage site place read written) = is_site layout site
fits_cause layout Memory = true

unfoldable pub fits_said : Layout → Said → Bool
fits_said layout (saids.Committed site seq) = is_site layout site
fits_said layout (saids.Read site) = is_site layout site
fits_said layout (saids.InDoubt site) = is_site layout site
fits_said layout (saids.Placed part site epoch) = is_part layout part && is_site layout site
fits_said layout (saids.Restarted site) = is_site layout site
fits_said layout (saids.Refused cause) = fits_cause layout cause
