use Rattle.std.proofs.Common.{arith, rules}
use Rattle.std.specs.Prelude.{pos}
use Rattle.dm_store.proofs.Knowing.{one_further}
use Rattle.dm_store.proofs.store.Store.know_each.Goals as goal

pub loop-pair-preserved : goal.loop-pair-preserved
loop-pair-preserved c = record {
  all = one_further c.loop-pair.self.known c.know.new.self.known c.args.pairs.now c.loop-pair.pair-index (record { key = 0; value = pos 0 })
      (omega arith) c.loop-pair.invariant.all c.in_ok-know.ensures.stay c.in_ok-know.ensures.now_known;
  stay = λ key h. c.in_ok-know.ensures.stay key (c.loop-pair.invariant.stay key h);
  layout = search rules;
  installed = search rules;
  spare = search rules;
}
