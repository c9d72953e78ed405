use Rattle.std.proofs.Common.{◌+◌, Option, List, ap, sym, ◌∙◌, drop}
use Rattle.std.specs.Option.{option_or}
use Rattle.std.specs.Prelude.{find}
use Rattle.dm_event.specs.declared.step.TxnId.{TxnId}
use Rattle.dm_kept.proofs.Holding.{is_on, runner_at}
use Rattle.dm_kept.specs.Ledger.{past}
use Rattle.dm_runs.specs.Running.{running_in}
use Rattle.dm_runs.specs.declared.run.Run.{Run}
use Rattle.dm_steps.proofs.Past.{drop_all}
use Rattle.dm_kept.proofs.running.runner.Goals as goal

pub returns-in-Some : goal.returns-in-Some
returns-in-Some c =
    let kept = c.args.kept.now in
    let runs = c.runs-runs.result.now in
    let on = is_on kept.layout (past kept) c.args.part in
    sym (ap (λ (ts : List TxnId). find on ts) (sym (c.runs-runs.ensures.at_site c.args.site)) ∙ sym c.loop-run.invariant
    ∙ runner_at kept.layout (past kept) c.is_legal.ensures.legal runs c.runs-runs.ensures c.args.site c.loop-run.run-index _ c.loop-run-test.true c.args.part
    ∙ ap (λ (o : Option TxnId). option_or o (find on (running_in c.args.site (drop (c.loop-run.run-index + 1) runs))))
    (sym c.runs_on.ensures ∙ c.in-Some.is))

pub loop-run-preserved : goal.loop-run-preserved
loop-run-preserved c =
    let kept = c.args.kept.now in
    let runs = c.runs-runs.result.now in
    let on = is_on kept.layout (past kept) c.args.part in
    sym (runner_at kept.layout (past kept) c.is_legal.ensures.legal runs c.runs-runs.ensures c.args.site c.loop-run.run-index _ c.loop-run-test.true c.args.part
    ∙ ap (λ (o : Option TxnId). option_or o (find on (running_in c.args.site (drop (c.loop-run.run-index + 1) runs))))
    (sym c.runs_on.ensures ∙ c.in_default.is))
    ∙ c.loop-run.invariant

pub returns : goal.returns
returns c =
    let kept = c.args.kept.now in
    let runs = c.runs-runs.result.now in
    let on = is_on kept.layout (past kept) c.args.part in
    sym (ap (λ (ts : List TxnId). find on ts) (sym (c.runs-runs.ensures.at_site c.args.site)) ∙ sym c.loop-run.invariant
    ∙ ap (λ (l : List Run). find on (running_in c.args.site l)) (drop_all runs c.loop-run.run-index c.loop-run-test.false))
