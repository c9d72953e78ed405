use Rattle.std.proofs.Common.{sym, ◌∙◌}
use Rattle.dm_event.specs.declared.step.Step.TheVariants.{Route, Begin, Moved, End, Fail, Ask, Restart}
use Rattle.dm_model.proofs.Judged.{judged}
use Rattle.dm_clauses.proofs.judging.refusal.Goals as goal

pub returns-in-Route : goal.returns-in-Route
returns-in-Route g c =
    c.route_why.ensures
    ∙ sym (judged (g.T.Told.layout c.args.told.now) (g.T.Told.past c.args.told.now) c.args.step.now
    (Route c.in-Route.txn c.in-Route.want c.in-Route.min c.in-Route.site c.in-Route.choice) c.in-Route.is
    (sym c.has_shape.ensures ∙ c.if-not-has_shape.false))

pub returns-in-Begin : goal.returns-in-Begin
returns-in-Begin g c =
    c.begin_why.ensures
    ∙ sym (judged (g.T.Told.layout c.args.told.now) (g.T.Told.past c.args.told.now) c.args.step.now (Begin c.in-Begin.site c.in-Begin.txn c.in-Begin.begin) c.in-Begin.is
    (sym c.has_shape.ensures ∙ c.if-not-has_shape.false))

pub returns-in-End : goal.returns-in-End
returns-in-End g c =
    rw (c.as_slice.ensures, c.as_slice-in-End.ensures) at (c.end_why.ensures)
    ∙ sym (judged (g.T.Told.layout c.args.told.now) (g.T.Told.past c.args.told.now) c.args.step.now (End c.in-End.site c.in-End.txn c.in-End.ops c.in-End.reads) c.in-End.is
    (sym c.has_shape.ensures ∙ c.if-not-has_shape.false))

pub returns-in-Moved : goal.returns-in-Moved
returns-in-Moved g c =
    c.moved_why.ensures
    ∙ sym (judged (g.T.Told.layout c.args.told.now) (g.T.Told.past c.args.told.now) c.args.step.now (Moved c.in-Moved.site c.in-Moved.txn) c.in-Moved.is
    (sym c.has_shape.ensures ∙ c.if-not-has_shape.false))

pub returns-in-Fail : goal.returns-in-Fail
returns-in-Fail g c =
    c.fail_why.ensures
    ∙ sym (judged (g.T.Told.layout c.args.told.now) (g.T.Told.past c.args.told.now) c.args.step.now (Fail c.in-Fail.site c.in-Fail.txn c.in-Fail.cause) c.in-Fail.is
    (sym c.has_shape.ensures ∙ c.if-not-has_shape.false))

pub returns-in-Ask : goal.returns-in-Ask
returns-in-Ask g c =
    c.ask_why.ensures
    ∙ sym (judged (g.T.Told.layout c.args.told.now) (g.T.Told.past c.args.told.now) c.args.step.now (Ask c.in-Ask.part c.in-Ask.epoch c.in-Ask.to c.in-Ask.txn) c.in-Ask.is
    (sym c.has_shape.ensures ∙ c.if-not-has_shape.false))

pub returns-in-Restart : goal.returns-in-Restart
returns-in-Restart g c =
    c.restart_why.ensures
    ∙ sym (judged (g.T.Told.layout c.args.told.now) (g.T.Told.past c.args.told.now) c.args.step.now (Restart c.in-Restart.site c.in-Restart.vector c.in-Restart.found)
    c.in-Restart.is (sym c.has_shape.ensures ∙ c.if-not-has_shape.false))
