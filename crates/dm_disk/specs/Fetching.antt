-- What a source gives.
use Rattle.std.specs.Prelude.{◌≡◌, ℕ, ◌<◌, ◌≤◌, List, [], ◌∷◌, length, map, Option, Some, None, IfSome, if◌then◌else◌, string_bytes}
use Rattle.std.specs.declared.string.String.{String}
use Rattle.std.specs.declared.alloc.Global.{Global}
use Rattle.std.specs.Str.{bytes_eq}
use Rattle.std.specs.Global.{Vec}
use Rattle.dm_disk.specs.declared.outside.Fetched.{Fetched}
use Rattle.dm_disk.specs.declared.outside.Fetched.TheVariants as fetched
use Rattle.dm_disk.specs.Faults.{raised}

-- the files of a told source, by their names
abbrev pub Files : Type 0
Files = List ℕ → Option (List ℕ)

-- what a fetch with this limit gives from files that are told
abbrev pub FetchesFrom : Files → List ℕ → ℕ → Fetched → Type 0
FetchesFrom files name limit (fetched.Found bytes) = files name ≡ Some bytes.items
FetchesFrom files name limit fetched.Absent = files name ≡ None
FetchesFrom files name limit fetched.TooLong = (bytes : List ℕ) × (files name ≡ Some bytes) × (limit < length bytes)
FetchesFrom files name limit fetched.Failed = Unit {0}
FetchesFrom files name limit fetched.NoMemory = Unit {0}

-- the same, where the files are told
abbrev pub Fetches : Option Files → List ℕ → ℕ → Fetched → Type 0
Fetches files name limit answer = IfSome files (λ told. FetchesFrom told name limit answer)

-- what was found is no longer than the limit
abbrev pub FitsLimit : ℕ → Fetched → Type 0
FitsLimit limit (fetched.Found bytes) = length bytes.items ≤ limit
FitsLimit limit fetched.Absent = Unit {0}
FitsLimit limit fetched.TooLong = Unit {0}
FitsLimit limit fetched.Failed = Unit {0}
FitsLimit limit fetched.NoMemory = Unit {0}

-- a count of faults after a fetch that is counted where it failed
abbrev pub faults_fetching : ℕ → Fetched → ℕ
faults_fetching count fetched.Failed = raised count
faults_fetching count (fetched.Found bytes) = count
faults_fetching count fetched.Absent = count
faults_fetching count fetched.TooLong = count
faults_fetching count fetched.NoMemory = count

-- all that is known of a fetch at the host: its count of faults, and that the limit was kept
pub record HostFinds (old new : ℕ) (limit : ℕ) (answer : Fetched) : Type 0 where
  pub count : new ≡ faults_fetching old answer
  pub fits : FitsLimit limit answer

-- files as pairs of a name and a content
abbrev pub contents_of : List (String Global × Vec ℕ) → List (List ℕ × List ℕ)
contents_of files = map (λ file. (string_bytes file.0, file.1.items)) files

-- the file of a name; of two files with one name the first counts
abbrev pub find_file : List (List ℕ × List ℕ) → Files
find_file [] name = None
find_file (file ∷ files) name = if bytes_eq file.0 name then Some file.1 else find_file files name
