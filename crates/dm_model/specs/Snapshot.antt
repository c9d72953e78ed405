-- What transactions read.
use Rattle.std.specs.List.{AllByRecursion}
use Rattle.std.specs.Prelude.{◌≡◌, List, [], ◌∷◌, reverse}
use Rattle.dm_event.specs.Layout.{Layout}
use Rattle.dm_event.specs.declared.step.Step.{Step}
use Rattle.dm_event.specs.declared.step.Step.TheVariants.{End}
use Rattle.dm_model.specs.Acts.{entries}
use Rattle.dm_model.specs.Bodies.{ran_at}
use Rattle.dm_model.specs.Runs.{began_at}

-- each committed transaction read and wrote what its ops do on the values at its begin vector
abbrev pub CommitsMatch : Layout → List Step → Type 0
CommitsMatch layout past =
    AllByRecursion (λ e. (e.reads ≡ (ran_at layout past e.begin e.ops).reads) × (e.writes ≡ (ran_at layout past e.begin e.ops).writes)) (entries past)

-- each transaction that ended in these steps without a write read what its ops read of the values at its begin vector, which
-- are those of the whole past
abbrev pub ReadsMatch : Layout → List Step → List Step → Type 0
ReadsMatch layout whole [] = Unit {0}
ReadsMatch layout whole (End site txn ops reads ∷ past) =
    (reads ≡ (ran_at layout whole (began_at txn past) ops).reads) × ReadsMatch layout whole past
ReadsMatch layout whole (s ∷ past) = ReadsMatch layout whole past

abbrev pub SnapshotPast : Layout → List Step → Type 0
SnapshotPast layout past = CommitsMatch layout past × ReadsMatch layout past past

-- every transaction read its own writes, and else the values at its begin vector over the whole history: what comes later
-- changes none of them
abbrev pub Snapshot : Layout → List Step → Type 0
Snapshot layout history = SnapshotPast layout (reverse history)
