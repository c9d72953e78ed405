use Rattle.std.proofs.Common.{ℕ, Option, ap, sym, ◌∙◌}
use Rattle.std.specs.Prelude.{option_to_list}
use Rattle.dm_event.specs.declared.placing.Placing.{Placing}
use Rattle.dm_model.specs.Outcomes.{settled_epoch}
use Rattle.dm_model.specs.Tests.{is_among}
use Rattle.dm_plain.proofs.Settling.{stood_more, stands_same}
use Rattle.dm_plain.proofs.since.stood_settled.Goals as goal

pub loop-i-preserved : goal.loop-i-preserved
loop-i-preserved c =
    c.stands-found.ensures
    ∙ stands_same c.has_epoch-here.result c.is_route.result c.loop-i.found _ _ _
    (c.has_epoch-here.ensures ∙ ap (λ (o : Option ℕ). is_among (option_to_list o) c.args.epoch)
    (c.settled_epoch.ensures ∙ ap (λ (p : Placing). settled_epoch c.args.site p) c.placing.ensures.exact))
    c.is_route.ensures c.loop-i.invariant
    ∙ sym (stood_more c.args.schema.now c.args.session c.args.part c.args.site c.args.steps.now c.loop-i.i c.index-steps-i.result c.loop-i-test.true
    c.index-steps-i.is c.args.epoch)
