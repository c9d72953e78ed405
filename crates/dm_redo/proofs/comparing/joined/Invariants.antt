use Rattle.std.proofs.Common.{◌≡◌, take}
use Rattle.dm_redo.specs.Holding.{framed}
use Rattle.dm_redo.specs.Comparing.{AreFrames}
use Rattle.dm_redo.proofs.comparing.joined.Given as goal

abbrev pub invariant-loop-frame : goal.invariant-loop-frame
invariant-loop-frame l = record {
  joined : l.out.items ≡ framed (take l.frame-index l.frames);
  are : AreFrames (take l.frame-index l.frames);
}
