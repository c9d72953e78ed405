use Rattle.std.proofs.Common.{arith, length-drop}
use Rattle.std.proofs.lemmas.List.{take_rest}
use Rattle.dm_disk.proofs.Pieces.{appended_more}
use Rattle.dm_disk.proofs.writing.write_all.Goals as goal

pub loop-done-preserved : goal.loop-done-preserved
loop-done-preserved g c = record {
  within = omega (arith, c.in-Took.ensures.fits, length-drop c.loop-done.done c.args.text.now);
  taken = appended_more _ _ _ c.loop-done.done c.in-Took.n c.args.text.now c.loop-done.invariant.taken (rw take_rest at c.in-Took.ensures.took);
  count = omega arith;
}
