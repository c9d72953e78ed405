-- The actors of a chronicle, and their passes.
use Rattle.std.specs.Prelude.{ℕ, zero, suc, ◌++◌, ◌==◌, if◌then◌else◌, List, [], ◌∷◌, length, map}
use Rattle.dm_event.specs.Layout.{Layout}
use Rattle.dm_event.specs.declared.actor.Actor.{Actor}
use Rattle.dm_event.specs.declared.actor.Actor.TheVariants.{Partition, Session, Site}

-- so many sites, from this one on
abbrev pub sites_from : ℕ → ℕ → List Actor
sites_from site zero = []
sites_from site (suc n) = Site site ∷ sites_from (suc site) n

-- so many partitions, from this one on
abbrev pub parts_from : ℕ → ℕ → List Actor
parts_from part zero = []
parts_from part (suc n) = Partition part ∷ parts_from (suc part) n

-- the session with this number, if it has items
abbrev pub id_if : ℕ → ℕ → List ℕ
id_if n id = if n == 0 then [] else id ∷ []

-- the sessions that have items, where the list has the numbers of items of the sessions from this one on
abbrev pub ids_from : ℕ → List ℕ → List ℕ
ids_from id [] = []
ids_from id (n ∷ items) = if n == 0 then ids_from (suc id) items else id ∷ ids_from (suc id) items

abbrev pub sessions_of : List ℕ → List Actor
sessions_of ids = map Session ids

-- all sites, then all partitions, then the sessions that have items
abbrev pub all_actors : Layout → List ℕ → List Actor
all_actors layout items = sites_from 1 layout.sites ++ (parts_from 0 (length layout.masters) ++ sessions_of (ids_from 1 items))
