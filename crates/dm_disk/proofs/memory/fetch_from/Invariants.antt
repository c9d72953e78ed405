use Rattle.std.proofs.Common.{◌≡◌, drop}
use Rattle.dm_disk.specs.Fetching.{find_file, contents_of}
use Rattle.dm_disk.proofs.memory.fetch_from.Given as goal

abbrev pub invariant-loop-file : goal.invariant-loop-file
invariant-loop-file l = find_file (contents_of (drop l.file-index l.files)) l.name ≡ find_file (contents_of l.files) l.name
