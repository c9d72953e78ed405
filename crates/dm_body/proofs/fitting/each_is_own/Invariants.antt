use Rattle.std.proofs.Common.{◌≡◌, drop}
use Rattle.std.specs.List.{list_all}
use Rattle.dm_event.specs.declared.step.Pair.{Pair}
use Rattle.dm_model.specs.Values.{written}
use Rattle.dm_model.specs.Bodies.{body}
use Rattle.dm_body.specs.Fitting.{is_value}
use Rattle.dm_body.proofs.fitting.each_is_own.Given as goal

abbrev pub invariant-loop-pair : goal.invariant-loop-pair
invariant-loop-pair g l =
    let own = λ (pair : Pair). is_value (written (body l.ops (g.V.View.values l.initial.view)).writes pair.key) pair.value in
    record {
      rest : list_all own (drop l.pair-index l.writes) ≡ list_all own l.writes;
      values : g.V.View.values l.view ≡ g.V.View.values l.initial.view;
    }
