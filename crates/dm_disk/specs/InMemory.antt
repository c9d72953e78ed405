-- A source and a sink in memory.
use Rattle.std.specs.Prelude.{◌≡◌, ◌↔◌, Contains, ℕ, ◌-◌, ◌==◌, List, ◌++◌, length, take, min, if◌then◌else◌, ◌&&◌, not}
use Rattle.dm_disk.specs.declared.outside.Fetched.{Fetched}
use Rattle.dm_disk.specs.declared.outside.Fetched.TheVariants as fetched
use Rattle.dm_disk.specs.declared.outside.Put.{Put}
use Rattle.dm_disk.specs.declared.outside.Put.TheVariants.{Took, Failed}
use Rattle.dm_disk.specs.Faults.{raised}
use Rattle.dm_disk.specs.Fetching.{FetchesFrom, FitsLimit, find_file, faults_fetching}

-- files by name and content, the numbers of the fetches that fail, and the counts of fetches and faults
pub record SourceState : Type 0 where
  pub files : List (List ℕ × List ℕ)
  pub fails : List ℕ
  pub calls : ℕ
  pub faults : ℕ

-- the source after a fetch
abbrev pub after_fetch : SourceState → Fetched → SourceState
after_fetch source answer = record source { calls = raised source.calls; faults = faults_fetching source.faults answer }

-- what a fetch answers: it fails exactly where its number is among those that fail, and else looks the name up
pub record MemFinds (old new : SourceState) (name : List ℕ) (limit : ℕ) (answer : Fetched) : Type 0 where
  pub found : FetchesFrom (find_file old.files) name limit answer
  pub fits : FitsLimit limit answer
  pub fails : (answer ≡ fetched.Failed) ↔ Contains old.fails (raised old.calls)
  pub after : new ≡ after_fetch old answer

-- the bytes so far, how many there may be, and the count of faults
pub record SinkState : Type 0 where
  pub written : List ℕ
  pub limit : ℕ
  pub faults : ℕ

-- as much is taken as there is room for; where there is none, and something to take, the answer is a fault
abbrev pub answer_to : SinkState → List ℕ → Put
answer_to sink piece =
    let room = sink.limit - length sink.written in
    if (room == 0) && not (length piece == 0) then Failed else Took (min room (length piece))

-- the sink after its answer to a piece
abbrev pub after_put : SinkState → List ℕ → Put → SinkState
after_put sink piece (Took n) = record sink { written = sink.written ++ take n piece }
after_put sink piece Failed = record sink { faults = raised sink.faults }
