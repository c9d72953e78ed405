use Rattle.std.proofs.Common.{arith, ◌+◌}
use Rattle.dm_lines.specs.File.{schedule_of}
use Rattle.dm_lines.proofs.Steps.{read_more, read_stops, read_end}
use Rattle.dm_lines.proofs.file.read.Goals as goal

pub returns-in-Err-clause-exact : goal.returns-in-Err-clause-exact
unfolding schedule_of
returns-in-Err-clause-exact c =
    rw c.at.ensures (read_stops c.in-Err.error _ (c.loop-line.number + 1) c.loop-line.line-index c.deref-line-items.result.now _ _ c.loop-line-test.true
    c.in-Err.ensures.exact c.loop-line.invariant.exact)

pub loop-line-preserved : goal.loop-line-preserved
loop-line-preserved c = record {
  number = omega arith;
  exact = read_more _ _ (c.loop-line.number + 1) c.loop-line.line-index c.deref-line-items.result.now _ _ c.loop-line-test.true c.in-Ok.ensures.exact
      c.loop-line.invariant.exact;
  fit = c.in-Ok.ensures.fit c.loop-line.invariant.fit;
  few = omega (arith, c.in-Ok.ensures.few, c.loop-line.invariant.few);
}

pub returns-clause-exact : goal.returns-clause-exact
unfolding schedule_of
returns-clause-exact c =
    rw (read_end _ (c.loop-line.number + 1) c.loop-line.line-index c.deref-line-items.result.now _ c.loop-line-test.false c.loop-line.invariant.exact) at
    c.finish.ensures.exact
