use Rattle.std.proofs.Common.{ap, ◌∙◌}
use Rattle.dm_invariant.specs.Stations.{Station}
use Rattle.dm_onsite.proofs.stage.Stage.new.Goals as goal

pub invariant_of-stage : goal.invariant_of-stage
invariant_of-stage g c =
    let number = λ (s : Station g.row.D.Denot). s.number in
    record {
      chron_is = c.requires.table;
      one_is = ap number c.in-Ok.ensures.ok;
      two_is = ap number c.in-Ok-new.ensures.ok;
      entry_is = (c.args.opened.entry_is.0 ∙ c.requires.table, c.args.opened.entry_is.1);
    }
