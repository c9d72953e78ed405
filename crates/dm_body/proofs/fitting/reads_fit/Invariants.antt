use Rattle.std.proofs.Common.{◌≡◌, ◌≤◌, length, drop}
use Rattle.dm_model.specs.Tests.{same_pairs}
use Rattle.dm_model.specs.Bodies.{body}
use Rattle.dm_body.proofs.OwnWrites.{reads_from}
use Rattle.dm_body.proofs.fitting.reads_fit.Given as goal

abbrev pub invariant-loop-done : goal.invariant-loop-done
invariant-loop-done g l =
    let f = g.V.View.values l.initial.view in
    record {
      within : l.met ≤ length l.reads;
      rest : same_pairs (drop l.met l.reads) (reads_from f l.ops l.done) ≡ same_pairs l.reads (body l.ops f).reads;
      values : g.V.View.values l.view ≡ f;
    }
