-- How the versions of a key are chained.
use Rattle.std.specs.Prelude.{◌≡◌, ℕ, ◌-◌, ◌==◌, if◌then◌else◌, List, [], ◌∷◌, Option, Some, None, map, reverse, length, nat_eq, vec_len, vec_capacity}
use Rattle.std.specs.Option.{option_flatten}
use Rattle.indexmap.specs.IndexMap.{get, keys}
use Rattle.dm_store.specs.Chained.{Chained}
use Rattle.dm_store.specs.declared.chains.Chains.TheInside.{Inside}
use Rattle.dm_store.specs.declared.version.Link.{Link}

-- the place of the last link of the key, places being counted from the earliest; the latest stands first
abbrev pub last_place : ℕ → List Link → Option ℕ
last_place key [] = None
last_place key (l ∷ ls) = if l.version.key == key then Some (length ls) else last_place key ls

-- each link leads to the one before it of its key
abbrev pub AreLinked : List Link → Type 0
AreLinked [] = Unit {0}
AreLinked (l ∷ ls) = (l.older ≡ last_place l.version.key ls) × AreLinked ls

abbrev pub chained : Inside → Chained
chained c = record {
  known = keys c.newest;
  versions = map (λ l. l.version) (reverse c.links.items);
  room = vec_capacity c.links - vec_len c.links;
}

-- links lead to those before of their keys, and a key's entry to its last link
pub record IsChained (c : Inside) : Type 0 where
  pub linked : AreLinked (reverse c.links.items)
  pub newest : (key : ℕ) → option_flatten (get nat_eq c.newest key) ≡ last_place key (reverse c.links.items)
