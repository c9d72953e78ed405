use Rattle.std.proofs.Common.{ℕ, List, Option, ap, sym, ◌∙◌}
use Rattle.std.specs.List.{cons_option}
use Rattle.dm_event.specs.Vectors.{join_all}
use Rattle.dm_kept.specs.Ledger.{past}
use Rattle.dm_model.specs.Floors.{floor_vectors}
use Rattle.dm_steps.proofs.Components.{join_one_more, long_both}
use Rattle.dm_steps.proofs.FloorVectors.{floor_counted}
use Rattle.dm_steps.specs.Adding.{join_one}
use Rattle.dm_kept.proofs.restarting.floor_with_kept.Goals as goal

pub join_one-requires : goal.join_one-requires
join_one-requires c =
    let kept = c.args.kept.now in
    long_both kept.layout.sites c.pending_floor.result (floor_vectors c.args.site (past kept)) c.floor.result c.floor.ensures c.pending_floor.ensures.sites

pub returns : goal.returns
returns c =
    let sites = c.args.kept.now.layout.sites in
    let before = past c.args.kept.now in
    c.join_one.ensures
    ∙ ap (λ (v : List ℕ). join_one v c.pending_floor.result) c.floor.ensures
    ∙ join_one_more sites c.pending_floor.result (floor_vectors c.args.site before) c.pending_floor.ensures.sites
    ∙ ap (λ (o : Option (List ℕ)). join_all sites (cons_option o (floor_vectors c.args.site before))) c.pending_floor.ensures.exact
    ∙ ap (λ (vs : List (List ℕ)). join_all sites vs) (sym (floor_counted c.args.site c.args.site c.args.found before))
