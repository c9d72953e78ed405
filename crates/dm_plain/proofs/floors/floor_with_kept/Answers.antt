use Rattle.std.proofs.Common.{◌≡◌, ℕ, List, Option, ap, sym, ◌∙◌, subst, true}
use Rattle.std.specs.Prelude.{reverse, IfSome}
use Rattle.std.specs.List.{cons_option}
use Rattle.dm_event.specs.Vectors.{join_all}
use Rattle.dm_event.specs.declared.step.Pending.{Pending}
use Rattle.dm_event.specs.declared.step.Step.TheVariants.{Doubt}
use Rattle.dm_model.specs.Floors.{floor_vectors}
use Rattle.dm_model.specs.Shape.{is_shaped}
use Rattle.dm_steps.specs.Adding.{join_one, kept_floor}
use Rattle.dm_steps.proofs.Components.{join_one_more, long_both}
use Rattle.dm_steps.proofs.FloorVectors.{floor_counted}
use Rattle.dm_steps.proofs.Legality.{pending_shaped}
use Rattle.dm_plain.proofs.floors.floor_with_kept.Goals as goal

pub kept_floor-requires : goal.kept_floor-requires
kept_floor-requires c =
    subst (λ (o : Option Pending). IfSome o (λ p. is_shaped c.args.schema.now (Doubt c.args.site p) ≡ true)) (sym c.pending_at.ensures)
    (pending_shaped c.args.schema.now c.args.site (reverse c.args.steps.now) c.requires)

pub join_one-requires : goal.join_one-requires
join_one-requires c = long_both c.args.schema.now.sites c.kept_floor.result (floor_vectors c.args.site (reverse c.args.steps.now)) c.floor.result
    c.floor.ensures c.kept_floor.ensures.sites

pub returns : goal.returns
returns c =
    let sites = c.args.schema.now.sites in
    let past = reverse c.args.steps.now in
    c.join_one.ensures
    ∙ ap (λ (v : List ℕ). join_one v c.kept_floor.result) c.floor.ensures
    ∙ join_one_more sites c.kept_floor.result (floor_vectors c.args.site past) c.kept_floor.ensures.sites
    ∙ ap (λ (o : Option (List ℕ)). join_all sites (cons_option o (floor_vectors c.args.site past)))
    (c.kept_floor.ensures.exact ∙ ap (λ (o : Option Pending). kept_floor c.args.site c.args.site c.args.found o) c.pending_at.ensures)
    ∙ ap (λ (vs : List (List ℕ)). join_all sites vs) (sym (floor_counted c.args.site c.args.site c.args.found past))
