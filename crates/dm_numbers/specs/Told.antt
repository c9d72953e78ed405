-- What a step tells of vectors and counts: what code takes from it, with no addition that could overflow. For an allowed step this is
-- what it makes of them.
use Rattle.std.specs.Prelude.{ℕ, ◌+◌, ◌-◌, ◌^◌, ◌==◌, min, if◌then◌else◌, List, Option, Some, None, length, option_and_then}
use Rattle.dm_event.specs.Entries.{commit_vector}
use Rattle.dm_event.specs.Layout.{is_between}
use Rattle.dm_event.specs.Vectors.{at, raised, join}
use Rattle.dm_event.specs.declared.step.Entry.{Entry}
use Rattle.dm_event.specs.declared.step.Pending.{Pending}
use Rattle.dm_event.specs.declared.step.Said.{Said}
use Rattle.dm_event.specs.declared.step.Said.TheVariants as said
use Rattle.dm_event.specs.declared.step.Step.{Step}
use Rattle.dm_event.specs.declared.step.Step.TheVariants.{Route, Reply, Commit, Refresh, Grant, Restart}
use Rattle.dm_steps.specs.Pendings.{act_of}

-- the maximum, where both are of one length
abbrev pub told_join : List ℕ → Option (List ℕ) → List ℕ
told_join u None = u
told_join u (Some v) = if length u == length v then join u v else u

-- the commit vector, where the origin is one of its sites
abbrev pub told_commit : Entry → Option (List ℕ)
told_commit e = if is_between 1 (length e.begin) e.origin then Some (commit_vector e) else None

-- the vector with another component, where it has one at the site
abbrev pub told_raised : List ℕ → ℕ → ℕ → List ℕ
told_raised v i n = if is_between 1 (length v) i then raised v i n else v

abbrev pub told_vector : ℕ → Step → List ℕ → List ℕ
told_vector i (Commit e) v = if e.origin == i then told_raised v i e.seq else v
told_vector i (Refresh site origin) v = if site == i then told_raised v origin (min (at v origin + 1) (2 ^ 64 - 1)) else v
told_vector i (Restart site vector found) v = if site == i then vector else v
told_vector i s v = v

abbrev pub told_floor_vector : ℕ → Step → Option (List ℕ)
told_floor_vector i (Commit e) = if e.origin == i then told_commit e else None
told_floor_vector i (Grant site part epoch vector) = if site == i then Some vector else None
told_floor_vector i s = None

abbrev pub told_floor : ℕ → Step → Option Pending → List ℕ → List ℕ
told_floor i s kept v = told_join v (option_and_then (told_floor_vector i) (act_of s kept))

abbrev pub told_seen_by : Said → Option Entry → Option (List ℕ) → Option (List ℕ)
told_seen_by (said.Committed site seq) entry begin = option_and_then told_commit entry
told_seen_by (said.Read site) entry begin = begin
told_seen_by other entry begin = None

abbrev pub told_seen : ℕ → Step → Option Entry → Option (List ℕ) → List ℕ → List ℕ
told_seen c (Reply session number said) entry begin seen = if session == c then told_join seen (told_seen_by said entry begin) else seen
told_seen c s entry begin seen = seen

-- how many Routes the session's current item has
abbrev pub told_routes : ℕ → Step → ℕ → ℕ
told_routes c (Route txn want min site choice) n = if txn.session == c then txn.attempt else n
told_routes c (Reply session number said) n = if session == c then 0 else n
told_routes c s n = n
