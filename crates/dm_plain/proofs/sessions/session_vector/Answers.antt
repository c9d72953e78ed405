use Rattle.std.proofs.Common.{ℕ, List, Option, ap, sym, ◌∙◌, take}
use Rattle.std.specs.Prelude.{reverse, []}
use Rattle.std.specs.List.{cons_option}
use Rattle.dm_event.specs.declared.step.Step.{Step}
use Rattle.dm_event.specs.Vectors.{join_all}
use Rattle.dm_model.specs.Sessions.{answered}
use Rattle.dm_steps.specs.Adding.{join_one}
use Rattle.dm_steps.proofs.Components.{join_none, join_one_more, long_both}
use Rattle.dm_event.proofs.Backwards.{past_more}
use Rattle.dm_steps.proofs.Past.{legal_front}
use Rattle.dm_plain.proofs.sessions.session_vector.Goals as goal

pub loop-i-init : goal.loop-i-init
loop-i-init c = c.zeros-seen.ensures ∙ join_none c.sites.result ∙ ap (λ (n : ℕ). join_all n []) c.sites.ensures.same

pub answered_by-requires : goal.answered_by-requires
answered_by-requires c = legal_front c.args.schema.now c.args.steps.now c.loop-i.i c.requires

pub join_one-seen-requires : goal.join_one-seen-requires
join_one-seen-requires c = long_both c.args.schema.now.sites c.answered_by.result (answered c.args.session (reverse (take c.loop-i.i c.args.steps.now)))
    c.loop-i.seen c.loop-i.invariant c.answered_by.ensures.sites

pub loop-i-preserved : goal.loop-i-preserved
loop-i-preserved c =
    let past = reverse (take c.loop-i.i c.args.steps.now) in
    c.join_one-seen.ensures
    ∙ ap (λ (v : List ℕ). join_one v c.answered_by.result) c.loop-i.invariant
    ∙ join_one_more c.args.schema.now.sites c.answered_by.result (answered c.args.session past) c.answered_by.ensures.sites
    ∙ ap (λ (o : Option (List ℕ)). join_all c.args.schema.now.sites (cons_option o (answered c.args.session past))) c.answered_by.ensures.exact
    ∙ ap (λ (l : List Step). join_all c.args.schema.now.sites (answered c.args.session l))
    (sym (past_more c.args.steps.now c.loop-i.i c.index-steps-i.result c.loop-i-test.true c.index-steps-i.is))
