-- What a site keeps of a history in its log.
use Rattle.std.specs.Prelude.{ℕ, ◌==◌, if◌then◌else◌, List, Option, Some, None, map, filter_map, option_map, option_to_list, reverse}
use Rattle.dm_event.specs.declared.step.Entry.{Entry}
use Rattle.dm_event.specs.declared.step.Pending.{Pending}
use Rattle.dm_event.specs.declared.step.Pending.TheVariants as pending
use Rattle.dm_event.specs.declared.step.Step.{Step}
use Rattle.dm_event.specs.declared.step.Step.TheVariants as step
use Rattle.dm_model.specs.Acts.{acts, acts_of}
use Rattle.dm_model.specs.Doubts.{step_of}
use Rattle.dm_record.specs.Bytes.{frame_of}
use Rattle.dm_record.specs.declared.record.Record.{Record}
use Rattle.dm_record.specs.declared.record.Record.TheVariants.{Commit, Release, Grant}

abbrev pub commit_record : Entry → Record
commit_record entry = Commit entry.txn entry.seq entry.begin entry.writes

-- the record of an act of the site
abbrev pub record_of : ℕ → Step → Option Record
record_of i (step.Commit entry) = if entry.origin == i then Some (commit_record entry) else None
record_of i (step.Release site part epoch to vector) = if site == i then Some (Release part epoch to vector) else None
record_of i (step.Grant site part epoch vector) = if site == i then Some (Grant part epoch vector) else None
record_of i s = None

-- the records of the site's acts, the earliest first
abbrev pub records_of : ℕ → List Step → List Record
records_of site past = filter_map (record_of site) (reverse (acts past))

-- the records that the step adds to those of the site
abbrev pub records_by : ℕ → Step → List Step → List Record
records_by site step past = filter_map (record_of site) (acts_of step past)

-- the records that a kept step of the first site adds to those of the second
abbrev pub kept_records : ℕ → ℕ → Option Pending → List Record
kept_records at site pending = filter_map (record_of site) (option_to_list (option_map (step_of at) pending))

abbrev pub frames_of : ℕ → List Step → List (List ℕ)
frames_of site past = map frame_of (records_of site past)

-- the record that a step in doubt would have
abbrev pub pending_record : Pending → Record
pending_record (pending.Commit entry) = commit_record entry
pending_record (pending.Release part epoch to vector) = Release part epoch to vector
pending_record (pending.Grant part epoch vector) = Grant part epoch vector
