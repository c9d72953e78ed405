-- Which transactions may be installed.
use Rattle.std.specs.List.{list_all}
use Rattle.std.specs.Prelude.{ℕ, Bool, true, ◌==◌, nat_le, nat_lt, ◌&&◌, if◌then◌else◌, List, [], ◌∷◌, ◌++◌, length, map}
use Rattle.dm_event.specs.declared.limits.TheConstants.{MAX_KEYS}
use Rattle.dm_model.specs.Shape.{is_ascending}
use Rattle.dm_store.specs.declared.past.Past.{Past}

-- the number is above those of all these transactions of the origin
abbrev pub is_above : List Past → ℕ → ℕ → Bool
is_above installed origin seq = list_all (λ t. if t.origin == origin then nat_lt t.seq seq else true) installed

-- the transaction may come behind those installed
abbrev pub fits : List Past → Past → Bool
fits installed t = nat_le (length t.writes) MAX_KEYS && (is_ascending (map (λ p. p.key) t.writes) && is_above installed t.origin t.seq)

-- the transactions may come one after another behind those installed
abbrev pub may_install : List Past → List Past → Bool
may_install installed [] = true
may_install installed (t ∷ ts) = fits installed t && may_install (installed ++ t ∷ []) ts
