-- What the fields of the numbers say.
use Rattle.std.specs.Prelude.{◌≡◌, ◌≤◌, length}
use Rattle.dm_event.specs.declared.limits.TheConstants.{MAX_SITES, MAX_SESSIONS}
use Rattle.dm_numbers.specs.Counted.{Counted}
use Rattle.dm_numbers.specs.declared.numbers.Numbers.TheInside.{Inside}

abbrev pub counted_of : Inside → Counted
counted_of n = record { sites = n.sites.items; sessions = n.sessions.items }

-- there is a place for each session, and as many sites as a schema may have
pub record AreFew (n : Inside) : Type 0 where
  pub some : 1 ≤ length n.sites.items
  pub sites : length n.sites.items ≤ MAX_SITES
  pub sessions : length n.sessions.items ≡ MAX_SESSIONS
