use Rattle.std.proofs.Common.{◌∙◌, sym, arith, ◌<◌, get_or, drop}
use Rattle.std.proofs.Common.{Less, Greater}
use Rattle.std.proofs.lemmas.Cmp.{ranked}
use Rattle.dm_locks.proofs.Merging.{at_less, at_greater, at_other_end}
use Rattle.dm_locks.proofs.claim.common_key.Goals as goal

pub loop-i-preserved-in-Less : goal.loop-i-preserved-in-Less
loop-i-preserved-in-Less c =
    let l : get_or c.args.keys.now c.loop-i.i 0 < get_or c.args.others.now c.loop-i.j 0 =
    ranked (get_or c.args.keys.now c.loop-i.i 0) (get_or c.args.others.now c.loop-i.j 0) Less (sym c.in-Less.is ∙ c.cmp.ensures) in
    record {
      rest = at_less c.args.keys.now c.args.others.now c.loop-i.i c.loop-i.j c.requires.others c.loop-i-test.true c.if-j-others.true l
          ∙ c.loop-i.invariant.rest;
      keys = omega arith;
      others = omega arith;
    }

pub loop-i-preserved : goal.loop-i-preserved
loop-i-preserved c =
    let l : get_or c.args.others.now c.loop-i.j 0 < get_or c.args.keys.now c.loop-i.i 0 =
    ranked (get_or c.args.keys.now c.loop-i.i 0) (get_or c.args.others.now c.loop-i.j 0) Greater (sym c.in-Greater.is ∙ c.cmp.ensures) in
    record {
      rest = at_greater c.args.keys.now c.args.others.now c.loop-i.i c.loop-i.j c.requires.keys c.loop-i-test.true c.if-j-others.true l
          ∙ c.loop-i.invariant.rest;
      keys = omega arith;
      others = omega arith;
    }

pub returns-else-j-others : goal.returns-else-j-others
returns-else-j-others c = sym (at_other_end (drop c.loop-i.i c.args.keys.now) c.args.others.now c.loop-i.j c.if-j-others.false) ∙ c.loop-i.invariant.rest
