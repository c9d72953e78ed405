use Rattle.std.proofs.Common.{◌≡◌, take}
use Rattle.std.specs.List.{AllByRecursion}
use Rattle.std.specs.Prelude.{reverse}
use Rattle.dm_frames.specs.Records.{frames_of, records_of}
use Rattle.dm_frames.proofs.listing.frames.Given as goal
use Rattle.dm_record.specs.Bytes.{HasRanges}

abbrev pub invariant-loop-i : goal.invariant-loop-i
invariant-loop-i l = (l.frames.items ≡ frames_of l.site (reverse (take l.i l.steps)))
    × AllByRecursion HasRanges (records_of l.site (reverse (take l.i l.steps)))
