use Rattle.std.proofs.Common.{◌≡◌, take}
use Rattle.dm_restart.specs.Floors.{floor_of}
use Rattle.dm_restart.proofs.floors.floor.Given as goal

abbrev pub invariant-loop-record : goal.invariant-loop-record
invariant-loop-record l = l.floor ≡ floor_of l.sites l.site (take l.record-index l.own)
