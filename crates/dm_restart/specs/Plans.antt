-- What a site starts again with.
use Rattle.std.specs.List.{list_any, range_with_len}
use Rattle.std.specs.Prelude.{◌≡◌, ℕ, ◌==◌, ◌&&◌, Bool, not, nat_lt, List, ◌++◌, Option, Some, None, map, filter, filter_map, find, option_to_list}
use Rattle.dm_event.specs.Vectors.{at}
use Rattle.dm_record.specs.declared.record.Record.{Record}
use Rattle.dm_record.specs.declared.record.Record.TheVariants.{Commit}
use Rattle.dm_restart.specs.Floors.{floor_of}
use Rattle.dm_store.specs.declared.past.Past.{Past}

-- the transaction of a commit of the site
abbrev pub commit_of : ℕ → Record → Option Past
commit_of site (Commit txn seq begin writes) = Some (record { origin = site; seq = seq; writes = writes })
commit_of site rec = None

-- the commits of the site, in order
abbrev pub commits_of : ℕ → List Record → List Past
commits_of site own = filter_map (commit_of site) own

-- the transaction is one of these, by its origin and number
abbrev pub is_one_of : List Past → Past → Bool
is_one_of past t = list_any (λ u. (u.origin == t.origin) && (u.seq == t.seq)) past

-- the first commit of the site that the past lacks
abbrev pub lacking : ℕ → List Record → List Past → Option Past
lacking site own past = find (λ t. not (is_one_of past t)) (commits_of site own)

-- the past, and behind it the commit of the site that it lacks, if it lacks one
abbrev pub completed : ℕ → List Record → List Past → List Past
completed site own past = past ++ option_to_list (lacking site own past)

-- the numbers of the transactions of the origin, in order
abbrev pub numbers_of : ℕ → List Past → List ℕ
numbers_of origin past = map (λ t. t.seq) (filter (λ t. t.origin == origin) past)

-- with that commit, the past has of each origin just the numbers from 1 to the floor's component
abbrev pub ReachesFloor : ℕ → ℕ → List Record → List Past → Type 0
ReachesFloor sites site own past =
    (origin : ℕ) → numbers_of origin (completed site own past) ≡ range_with_len 1 (at (floor_of sites site own) origin)

abbrev pub is_numbered_above : ℕ → Past → Bool
is_numbered_above last t = nat_lt last t.seq
