use Rattle.std.proofs.Common.{◌≡◌, take}
use Rattle.dm_model.specs.Values.{written}
use Rattle.dm_model.specs.Bodies.{body}
use Rattle.dm_body.proofs.fitting.own_write.Given as goal

abbrev pub invariant-loop-op : goal.invariant-loop-op
invariant-loop-op g l = record {
  own : l.own ≡ written (body (take l.op-index l.ops) (g.V.View.values l.initial.view)).writes l.key;
  values : g.V.View.values l.view ≡ g.V.View.values l.initial.view;
}
