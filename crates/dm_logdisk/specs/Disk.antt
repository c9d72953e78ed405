-- What disks in memory show.
use Rattle.std.specs.Prelude.{ℕ, List}
use Rattle.dm_logdisk.specs.Story.{Story}
use Rattle.dm_logdisk.specs.Kept.{story_of}
use Rattle.dm_logdisk.specs.declared.lying.LyingDisk.{LyingDisk}
use Rattle.dm_logdisk.specs.declared.memory.MemDisk.{MemDisk}

-- what a disk that keeps a record has gone through
abbrev pub mem_story : MemDisk → Story
mem_story m = story_of m.first.items m.changes.items m.pieces.items m.bytes.items

-- what a lying disk holds
abbrev pub held : LyingDisk → List ℕ
held d = d.bytes.items

-- the place at which its reads lie, and the byte that they give there
abbrev pub lie : LyingDisk → ℕ × ℕ
lie d = (d.place, d.byte)
