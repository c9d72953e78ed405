-- What the records of a site say of its floor.
use Rattle.std.specs.Prelude.{ℕ, List, Option, Some, None, filter_map}
use Rattle.dm_event.specs.Vectors.{raised, join_all}
use Rattle.dm_record.specs.declared.record.Record.{Record}
use Rattle.dm_record.specs.declared.record.Record.TheVariants.{Commit, Release, Grant}

-- the commit vector of a commit of the site, which is its begin vector with its own number, or the vector of a grant to it
abbrev pub counted : ℕ → Record → Option (List ℕ)
counted site (Commit txn seq begin writes) = Some (raised begin site seq)
counted site (Release part epoch to vector) = None
counted site (Grant part epoch vector) = Some vector

-- the maximum of these vectors, zeros where there are none
abbrev pub floor_of : ℕ → ℕ → List Record → List ℕ
floor_of sites site own = join_all sites (filter_map (counted site) own)
