use Rattle.std.proofs.Common.{List, ◌∙◌, ◌∷◌, ap, sym, subst}
use Rattle.dm_event.specs.declared.step.Step.{Step}
use Rattle.dm_runs.proofs.Advancing.{runs_follow}
use Rattle.dm_runs.specs.Running.{AreRuns}
use Rattle.dm_runs.specs.Shown.{Shown}
use Rattle.dm_runs.specs.declared.run.Run.{Run}
use Rattle.dm_runs.proofs.runs.Runs.apply.Goals as goal

pub returns-clause-follows : goal.returns-clause-follows
returns-clause-follows c = λ layout past legal are.
    runs_follow layout past c.args.step.now c.self.inside.list.items c.advance.new.list.items c.advance.ensures legal
    (subst (λ (s : Shown). AreRuns past s.runs) (sym c.self.view_is) are)
