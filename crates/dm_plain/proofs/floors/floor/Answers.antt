use Rattle.std.proofs.Common.{ℕ, List, Option, ap, sym, ◌∙◌, take}
use Rattle.std.specs.Prelude.{reverse, []}
use Rattle.std.specs.List.{cons_option}
use Rattle.dm_event.specs.declared.step.Step.{Step}
use Rattle.dm_event.specs.Vectors.{join_all}
use Rattle.dm_model.specs.Floors.{floor, floor_vectors}
use Rattle.dm_steps.specs.Adding.{join_one}
use Rattle.dm_steps.proofs.Components.{join_none, join_one_more, long_both}
use Rattle.dm_steps.proofs.FloorVectors.{floor_more}
use Rattle.dm_event.proofs.Backwards.{past_more}
use Rattle.dm_steps.proofs.Past.{legal_front, allowed_at}
use Rattle.dm_plain.proofs.floors.floor.Goals as goal

pub loop-i-init : goal.loop-i-init
loop-i-init c = c.zeros-floor.ensures ∙ join_none c.sites.result ∙ ap (λ (n : ℕ). join_all n []) c.sites.ensures.same

pub floor_by-requires-clause-legal : goal.floor_by-requires-clause-legal
floor_by-requires-clause-legal c = legal_front c.args.schema.now c.args.steps.now c.loop-i.i c.requires

pub floor_by-requires-clause-allowed : goal.floor_by-requires-clause-allowed
floor_by-requires-clause-allowed c = allowed_at c.args.schema.now c.args.steps.now c.loop-i.i c.index-steps-i.result c.requires c.loop-i-test.true
    c.index-steps-i.is

pub join_one-floor-requires : goal.join_one-floor-requires
join_one-floor-requires c = long_both c.args.schema.now.sites c.floor_by.result (floor_vectors c.args.site (reverse (take c.loop-i.i c.args.steps.now)))
    c.loop-i.floor c.loop-i.invariant c.floor_by.ensures.sites

pub loop-i-preserved : goal.loop-i-preserved
loop-i-preserved c =
    let past = reverse (take c.loop-i.i c.args.steps.now) in
    c.join_one-floor.ensures
    ∙ ap (λ (v : List ℕ). join_one v c.floor_by.result) c.loop-i.invariant
    ∙ join_one_more c.args.schema.now.sites c.floor_by.result (floor_vectors c.args.site past) c.floor_by.ensures.sites
    ∙ ap (λ (o : Option (List ℕ)). join_all c.args.schema.now.sites (cons_option o (floor_vectors c.args.site past))) c.floor_by.ensures.exact
    ∙ ap (λ (vs : List (List ℕ)). join_all c.args.schema.now.sites vs) (sym (floor_more c.args.site c.index-steps-i.result past))
    ∙ ap (λ (l : List Step). floor c.args.schema.now.sites l c.args.site)
    (sym (past_more c.args.steps.now c.loop-i.i c.index-steps-i.result c.loop-i-test.true c.index-steps-i.is))
